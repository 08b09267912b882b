use Rattle.std.proofs.Common.{◌≡◌, ◌∙◌, ap, option_map, rules}
use Rattle.sched_base.specs.declared.buckets.Bucket.TheVariants.{Ui}
use Rattle.flat_policy.specs.Policy.Queue.{lane}
use Rattle.bound_buckets.specs.Tops.{above_ui_of}
use Rattle.bound_buckets.proofs.Above.{above_is}
use Rattle.bound_buckets.proofs.above_ui.Goals as goal

pub returns-clause-queue : goal.returns-clause-queue
returns-clause-queue c s tops =
    let choice : c.then_some.result ≡ above_ui_of c.args.t.now = search rules in
    ap (option_map (lane Ui)) (choice ∙ ap above_ui_of tops) ∙ above_is s
