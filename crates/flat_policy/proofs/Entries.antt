-- Facts of the entries of a queue, one by one and of all.
use Rattle.std.proofs.Common.{◌≡◌, ◌<◌, List, [], ◌∷◌, Contains, sym, ap, ◌∙◌, subst, inl, inr, arith}
use Rattle.flat_policy.specs.Policy.Queue.{Queued}
use Rattle.flat_policy.specs.Policy.WellFormed.{ArrivalsRise, EachQueued, HasOrderNumber}
use Rattle.flat_policy.proofs.Members.{contains_cases, contains_here, contains_later, contains_none}

pub each_member : (P : Queued → Type 0) (es : List Queued) → EachQueued P es → (e : Queued) → Contains es e → P e
each_member P [] each e c = absurd (contains_none e c)
each_member P (f ∷ fs) each e c =
    elim (contains_cases f fs e c) [
      | inl is ↦ subst P is each.0
      | inr d ↦ each_member P fs each.1 e d
    ]

pub each_from_members : (P : Queued → Type 0) (es : List Queued) → ((e : Queued) → Contains es e → P e) → EachQueued P es
each_from_members P [] h = tt
each_from_members P (f ∷ fs) h = (h f (contains_here f fs), each_from_members P fs (λ e c. h e (contains_later f fs e c)))

-- entries whose arrivals rise are the same where they arrived at once
pub same_from_arrival : (es : List Queued) → ArrivalsRise es → (x y : Queued) → Contains es x → Contains es y → x.arrival ≡ y.arrival → x ≡ y
same_from_arrival [] rise x y c d same = absurd (contains_none x c)
same_from_arrival (e ∷ es) rise x y c d same =
    elim (contains_cases e es x c) [
      | inl ex ↦ elim (contains_cases e es y d) [
        | inl ey ↦ sym ex ∙ ey
        | inr dy ↦ absurd (omega (arith, ap (λ (q : Queued). q.arrival) ex, same, each_member (λ (f : Queued). e.arrival < f.arrival) es rise.0 y dy))
      ]
      | inr dx ↦ elim (contains_cases e es y d) [
        | inl ey ↦ absurd (omega (arith, ap (λ (q : Queued). q.arrival) ey, same, each_member (λ (f : Queued). e.arrival < f.arrival) es rise.0 x dx))
        | inr dy ↦ same_from_arrival es rise.1 x y dx dy same
      ]
    ]

-- entries with one order number arrived at once
pub arrival_from_order : (x y : Queued) → HasOrderNumber x → HasOrderNumber y → x.order ≡ y.order → x.arrival ≡ y.arrival
arrival_from_order x y hx hy same = grind (arith, hx, hy, same)
