-- Entries priced anew: what stays of them, and which of them stand in a lane or a clutch bucket.
use Rattle.std.proofs.Common.{◌≡◌, ◌≢◌, ℕ, ◌+◌, ◌&&◌, Bool, true, false, cond, nat_lt, length, refl, sym, ap, ◌∙◌, inl, inr, arith}
use Rattle.std.proofs.lemmas.Bool.{and_right, cases_order, cond-false, cond-true, cond_both, le-ltb, lt-ltb}
use Rattle.sched_base.specs.Bucket.{index}
use Rattle.sched_base.specs.declared.Bucket.{Bucket}
use Rattle.sched_base.specs.declared.Bucket.TheVariants.{Bg, Df, Fg, Ini, Ui, Ut}
use Rattle.flat_policy.specs.Policy.Queue.{Clutch, Flat, Queued, in_clutch, in_lane, lane, unit_entries}
use Rattle.flat_policy.specs.Policy.Refresh.{is_ui, repriced}
use Rattle.flat_policy.specs.Policy.Usage.{decay, priority}
use Rattle.cluster_queue.specs.Refreshing.{is_done, priced_upto}
use Rattle.cluster_queue.proofs.Buckets.{bucket_by_index}

-- a bucket is not done below its own index, and then it is, but for UI; the others stay
pub own_not_done : (b : Bucket) → is_done (index b) b ≡ false
own_not_done b = and_right (nat_lt 0 (index b)) (nat_lt (index b) (index b)) (le-ltb (index b) (index b) (omega arith))

pub own_done : (b : Bucket) → b ≢ Ui → is_done (index b + 1) b ≡ true
own_done Ui n = absurd (n refl)
own_done Fg n = refl
own_done Ini n = refl
own_done Df n = refl
own_done Ut n = refl
own_done Bg n = refl

pub other_done : (b c : Bucket) → c ≢ b → is_done (index b + 1) c ≡ is_done (index b) c
other_done b c n =
    ap (λ (x : Bool). nat_lt 0 (index c) && x)
    (elim (cases_order (index c) (index b)) [
      | inl e ↦ absurd (n (bucket_by_index c b e))
      | inr d ↦ elim d [
        | inl below ↦ lt-ltb (index c) (index b + 1) (omega (arith, below)) ∙ sym (lt-ltb (index c) (index b) below)
        | inr above ↦ le-ltb (index c) (index b + 1) (omega (arith, above)) ∙ sym (le-ltb (index c) (index b) (omega (arith, above)))
      ]
    ])

-- the entry of a bucket other than UI, priced anew
abbrev pub with_price : Flat → ℕ → Queued → Queued
with_price s now e = record e {
  facts = record e.facts { usage = decay e.facts.usage e.facts.seen now; seen = now };
  pri = priority e.facts.base e.facts.bucket (decay e.facts.usage e.facts.seen now) (length (unit_entries s e.facts));
}

-- what is the same of an entry before and after
pub record Alike (e f : Queued) : Type 0 where
  pub group : f.facts.group ≡ e.facts.group
  pub bucket : f.facts.bucket ≡ e.facts.bucket
  pub bound : f.facts.bound ≡ e.facts.bound
  pub prefer : f.facts.prefer ≡ e.facts.prefer
  pub ran : f.facts.pending_ran ≡ e.facts.pending_ran
  pub blocked : f.facts.pending_blocked ≡ e.facts.pending_blocked
  pub arrival : f.arrival ≡ e.arrival

as_is : (e : Queued) → Alike e e
as_is e = record { group = refl; bucket = refl; bound = refl; prefer = refl; ran = refl; blocked = refl; arrival = refl }

pub repriced_alike : (s : Flat) (now : ℕ) (e : Queued) → Alike e (repriced s now e)
repriced_alike s now e =
    cond_both (is_ui e.facts.bucket) e (with_price s now e) (λ (f : Queued). Alike e f) (λ h. as_is e)
    (λ h. record { group = refl; bucket = refl; bound = refl; prefer = refl; ran = refl; blocked = refl; arrival = refl })

pub priced_alike : (s : Flat) (now upto : ℕ) (e : Queued) → Alike e (priced_upto s now upto e)
priced_alike s now upto e = cond_both (is_done upto e.facts.bucket) (repriced s now e) e (λ (f : Queued). Alike e f) (λ h. repriced_alike s now e) (λ h. as_is e)

pub clutch_stays : (s : Flat) (now : ℕ) (k : Clutch) (e : Queued) → in_clutch k (repriced s now e) ≡ in_clutch k e
clutch_stays s now k e = cond_both (is_ui e.facts.bucket) e (with_price s now e) (λ (f : Queued). in_clutch k f ≡ in_clutch k e) (λ h. refl) (λ h. refl)

pub lane_stays : (s : Flat) (now : ℕ) (b : Bucket) (bound : Bool) (e : Queued) → in_lane (lane b bound) (repriced s now e) ≡ in_lane (lane b bound) e
lane_stays s now b bound e = cond_both (is_ui e.facts.bucket) e (with_price s now e) (λ (f : Queued). in_lane (lane b bound) f ≡ in_lane (lane b bound) e) (λ h. refl) (λ h. refl)

-- entries of the buckets that are done are priced anew, and the others stay
pub priced_now : (s : Flat) (now upto : ℕ) (e : Queued) → is_done upto e.facts.bucket ≡ true → priced_upto s now upto e ≡ repriced s now e
priced_now s now upto e h = cond-true (is_done upto e.facts.bucket) (repriced s now e) e h

pub priced_not : (s : Flat) (now upto : ℕ) (e : Queued) → is_done upto e.facts.bucket ≡ false → priced_upto s now upto e ≡ e
priced_not s now upto e h = cond-false (is_done upto e.facts.bucket) (repriced s now e) e h

pub priced_same : (s : Flat) (now : ℕ) (b : Bucket) (e : Queued) → e.facts.bucket ≢ b → priced_upto s now (index b + 1) e ≡ priced_upto s now (index b) e
priced_same s now b e n = ap (λ (x : Bool). cond x (repriced s now e) e) (other_done b e.facts.bucket n)
