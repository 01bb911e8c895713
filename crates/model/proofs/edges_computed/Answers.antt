use Rattle.model.proofs.Computed.{number_edges, shape_edges, forwarding_edge, space_edges}
use Rattle.model.proofs.edges_computed.Goals as goal

pub returns : goal.returns
returns c = record { numbers = number_edges; shapes = shape_edges; forwarding = forwarding_edge; space = space_edges }
