use Rattle.std.proofs.Common.{◌≡◌, List, Bool, false, ap, sym}
use Rattle.windows.specs.WindowStates.{with_flag}
use Rattle.plain_cluster.proofs.Flags.{flags_stay, not_ui_at}
use Rattle.plain_cluster.proofs.queue.Queue.clear_lane.Goals as goal

pub returns-in-Ui : goal.returns-in-Ui
returns-in-Ui c =
    let w = c.args.self.now.windows in
    let q = c.args.self.now in
    let same : with_flag c.args.lane false w.lanes w.filled ≡ w.filled = flags_stay c.args.lane false w.lanes w.filled (not_ui_at w.lanes c.args.lane c.in-Ui.is c.requires.ten) c.requires.long in
    ap (λ (fs : List Bool). record q { windows = record w { filled = fs } }) (sym same)
