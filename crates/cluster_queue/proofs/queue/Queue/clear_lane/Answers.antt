use Rattle.std.proofs.Common.{◌≡◌, List, Bool, false, ap, sym}
use Rattle.windows.specs.WindowStates.{with_flag}
use Rattle.cluster_queue.proofs.FilledLanes.{flags_stay, ui_apart}
use Rattle.cluster_queue.proofs.queue.Queue.clear_lane.Goals as goal

pub returns-in-Ui : goal.returns-in-Ui
returns-in-Ui c =
    let q = c.args.self.now in
    let w = q.windows in
    let same : with_flag c.args.lane false w.lanes w.filled ≡ w.filled = flags_stay c.args.lane false w.lanes w.filled (ui_apart w.lanes c.args.lane c.in-Ui.is c.requires.ten) c.requires.long in
    ap (λ (fs : List Bool). record q { windows = record w { filled = fs } }) (sym same)
