-- The lane at an index, by its bucket's index and by whether it is even.
use Rattle.std.proofs.Common.{◌≡◌, ℕ, zero, suc, ◌+◌, ◌<◌, ◌/◌, ◌%◌, ◌==◌, Bool, true, false, Some, ap, sym, arith}
use Rattle.std.specs.Prelude.{slice_get}
use Rattle.sched_base.specs.Bucket.{index}
use Rattle.sched_base.specs.declared.buckets.Bucket.{Bucket}
use Rattle.sched_base.specs.declared.buckets.Bucket.TheVariants.{Bg, Df, Fg, Ini, Ut}
use Rattle.flat_policy.specs.Policy.Queue.{lane, timeshare_lanes}
use Rattle.flat_policy.proofs.Buckets.{bucket_from_index}

pub lane_is : (i : ℕ) (b : Bucket) → i < 10 → index b ≡ i / 2 + 1 → slice_get timeshare_lanes i ≡ Some (lane b (i % 2 == 0))
lane_is zero b small is = ap (λ (x : Bucket). Some (lane x true)) (sym (bucket_from_index b Fg is))
lane_is (suc zero) b small is = ap (λ (x : Bucket). Some (lane x false)) (sym (bucket_from_index b Fg is))
lane_is (suc (suc zero)) b small is = ap (λ (x : Bucket). Some (lane x true)) (sym (bucket_from_index b Ini is))
lane_is (suc (suc (suc zero))) b small is = ap (λ (x : Bucket). Some (lane x false)) (sym (bucket_from_index b Ini is))
lane_is (suc (suc (suc (suc zero)))) b small is = ap (λ (x : Bucket). Some (lane x true)) (sym (bucket_from_index b Df is))
lane_is (suc (suc (suc (suc (suc zero))))) b small is = ap (λ (x : Bucket). Some (lane x false)) (sym (bucket_from_index b Df is))
lane_is (suc (suc (suc (suc (suc (suc zero)))))) b small is = ap (λ (x : Bucket). Some (lane x true)) (sym (bucket_from_index b Ut is))
lane_is (suc (suc (suc (suc (suc (suc (suc zero))))))) b small is = ap (λ (x : Bucket). Some (lane x false)) (sym (bucket_from_index b Ut is))
lane_is (suc (suc (suc (suc (suc (suc (suc (suc zero)))))))) b small is = ap (λ (x : Bucket). Some (lane x true)) (sym (bucket_from_index b Bg is))
lane_is (suc (suc (suc (suc (suc (suc (suc (suc (suc zero))))))))) b small is = ap (λ (x : Bucket). Some (lane x false)) (sym (bucket_from_index b Bg is))
lane_is (suc (suc (suc (suc (suc (suc (suc (suc (suc (suc k)))))))))) b small is = absurd (omega (arith, small))
