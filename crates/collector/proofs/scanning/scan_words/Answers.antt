use Rattle.state.specs.View.{space_view, moving_of}
use Rattle.collector.proofs.Runs.{run_more, run_ends}
use Rattle.collector.proofs.scanning.scan_words.Goals as goal

pub run-preserved : goal.run-preserved
run-preserved g c =
    let means = g.H.Host.meaning in
    run_more g.L.Layout.rules c.args.stop (means c.run.host) (means c.head_of-object.new.host) (space_view c.run.space) (moving_of (means c.scan_word.new.host) c.scan_word.new.space) c.run.object c.head_of-object.result c.run.at _ c.run-test.ensures c.head_of-object.ensures.value c.head_of-object.ensures.after c.scan_word.ensures c.run.invariant

pub returns : goal.returns
returns g c = run_ends g.L.Layout.rules c.args.stop _ (moving_of (g.H.Host.meaning c.run.host) c.run.space) c.run.object c.run.at _ c.run-test.ensures c.run.invariant
