use Rattle.std.proofs.Common.{[], get_or}
use Rattle.setup_json.proofs.Written.{group_six, six_same}
use Rattle.setup_json.proofs.writer.group_numbers.Goals as goal

pub returns : goal.returns
returns c =
    six_same (get_or c.args.s.now.groups c.args.g []) 0 _ _ _ _ _ _ (group_six c.args.s.now c.args.g c.keeps_ranges.ensures c.requires)
    c.prefer.ensures.cluster c.prefer-2.ensures.cluster c.prefer-3.ensures.cluster c.prefer-4.ensures.cluster c.prefer-5.ensures.cluster c.prefer-6.ensures.cluster
