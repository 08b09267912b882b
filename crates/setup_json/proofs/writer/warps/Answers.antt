use Rattle.std.proofs.Common.{arith, length, rules, ◌≡◌}
use Rattle.flat_policy.specs.Policy.Setup.{no_times}
use Rattle.flat_policy.specs.declared.setup.Times.{Times}
use Rattle.setup_json.proofs.Called.{mapped_by}
use Rattle.setup_json.proofs.writer.warps.Goals as goal

pub returns : goal.returns
returns c =
    let six : length c.args.times.now ≡ 6 = omega arith in
    mapped_by _ (λ (t : Times). t.warp) _ c.args.times.now c.map.result 6 no_times c.map.ensures.items six (λ p q x y call. search rules)
