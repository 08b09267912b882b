-- Windows that expire: a second time changes nothing.
use Rattle.std.proofs.Common.{◌≡◌, ℕ, List, [], ◌∷◌, map, refl, ap, inl, inr, nat_le}
use Rattle.std.proofs.lemmas.Bool.{cases_Bool}
use Rattle.flat_policy.specs.declared.lanes.Warp.{Warp}
use Rattle.flat_policy.specs.declared.lanes.Warp.TheVariants.{Spent, Until, Unused}
use Rattle.flat_policy.specs.declared.setup.Times.{Times}
use Rattle.flat_policy.specs.Policy.Queue.{Flat, LaneState}
use Rattle.flat_policy.specs.Policy.Windows.{expired, expired_warp, expired_window, window_over}
use Rattle.flat_policy.specs.Policy.Setup.{times_for}

expires_warp_once : (now : ℕ) (w : Warp) → expired_warp now (expired_warp now w) ≡ expired_warp now w
expires_warp_once now Unused = refl
expires_warp_once now Spent = refl
expires_warp_once now (Until end) =
    elim (cases_Bool (nat_le end now)) [
      | inl e ↦ rw e refl
      | inr e ↦ rw e (rw e refl)
    ]

-- a function that changes nothing the second time, over a list
pub map_twice : {X : Type 0} (f : X → X) (xs : List X) → ((x : X) → f (f x) ≡ f x) → map f (map f xs) ≡ map f xs
map_twice f [] h = refl
map_twice f (x ∷ xs) h = rw (h x, map_twice f xs h) refl

expires_window_once : (ts : List Times) (now : ℕ) (l : LaneState) → expired_window ts now (expired_window ts now l) ≡ expired_window ts now l
expires_window_once ts now l =
    let quantum : ℕ = (times_for ts l.lane.bucket).quantum in
    let warp_once = expires_warp_once now l.warp in
    elim (cases_Bool (window_over quantum now l.starved)) [
      | inl e ↦ rw e (rw warp_once refl)
      | inr e ↦ rw e (rw e (rw warp_once refl))
    ]

pub expires_once_is : (ts : List Times) (s : Flat) (now : ℕ) → expired ts (expired ts s now) now ≡ expired ts s now
expires_once_is ts s now = ap (λ ls. record s { lanes = ls }) (map_twice (expired_window ts now) s.lanes (expires_window_once ts now))
