-- The examples compute.
use Rattle.std.proofs.Common.{refl}
use Rattle.model.specs.Forwarding.{roots_forwarded}
use Rattle.model.specs.Scanning.{run_scanned, lowest}
use Rattle.model.specs.Examples.{ObjectsAt29And27, ShortRunAnswers, NumberEdges, ShapeEdges, ForwardingEdge, SpaceEdges}

pub objects_at : ObjectsAt29And27
objects_at = (refl, refl)

pub short_run_answers : ShortRunAnswers
unfolding roots_forwarded run_scanned lowest
short_run_answers = refl

pub number_edges : NumberEdges
number_edges = (refl, refl, refl, refl)

pub shape_edges : ShapeEdges
shape_edges = (refl, refl, refl, refl)

pub forwarding_edge : ForwardingEdge
unfolding roots_forwarded
forwarding_edge = refl

pub space_edges : SpaceEdges
unfolding roots_forwarded
space_edges = (refl, refl, refl)
