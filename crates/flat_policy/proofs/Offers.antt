-- What a cluster offers to another.
use Rattle.std.proofs.Common.{◌≡◌, ℕ, Bool, true, false, ◌&&◌, ◌||◌, cond, Contains, List, [], ◌∷◌, filter, Option, Some, None, is_some, refl, sym, ap, ap₂, ◌∙◌, inl, inr}
use Rattle.std.specs.List.{list_any}
use Rattle.std.proofs.lemmas.Bool.{and_parts, cases_Bool, cond-false, cond-true, not-true}
use Rattle.sched_base.specs.Bucket.{index}
use Rattle.flat_policy.specs.Laws.Choice.{OrdersMembers, has_member}
use Rattle.flat_policy.specs.Laws.Offers.{OffersRightly, OffersInOrder}
use Rattle.flat_policy.specs.Policy.Offer.{first_there, foreign_before, is_masked, is_unbound, mask_between, masked_before, may_take, offered, offered_foreign, offered_masked, prefers}
use Rattle.flat_policy.specs.Policy.Precedence.{precedes, precedes_in_lane}
use Rattle.flat_policy.specs.Policy.Queue.{Flat, Queued}
use Rattle.flat_policy.specs.Policy.Setup.{SetupParts, mask_has, migrates}
use Rattle.flat_policy.specs.Policy.WellFormed.{WellFormed}
use Rattle.flat_policy.proofs.Buckets.{bucket_from_index}
use Rattle.flat_policy.proofs.Choice.{strict_from_order, there_under_strict}
use Rattle.flat_policy.proofs.InLane.{unbound_strict, unbound_total}
use Rattle.flat_policy.proofs.Kept.{offered_stands}
use Rattle.flat_policy.proofs.Lexical.{by_number_irreflexive, rises_total, rises_transitive}
use Rattle.flat_policy.proofs.Members.{member_of_filter}
use Rattle.flat_policy.proofs.Precedes.{precedes_irreflexive, precedes_total, precedes_transitive}

-- the entries that prefer the other cluster stand in a strict order
foreign_order : (groups to : ℕ) (s : Flat) → WellFormed groups s → OrdersMembers foreign_before (filter (λ (e : Queued). prefers to e.facts) s.entries)
foreign_order groups to s w = record {
  irreflexive = λ x c. by_number_irreflexive (index x.facts.bucket) (precedes x x) (precedes_irreflexive x);
  transitive = λ x y z c d e h k.
      rises_transitive (index x.facts.bucket) (index y.facts.bucket) (index z.facts.bucket) (precedes x y) (precedes y z) (precedes x z)
      (λ p q. precedes_transitive x y z) h k;
  total = λ x y c d h k.
      let t = rises_total (index x.facts.bucket) (index y.facts.bucket) (precedes x y) (precedes y x) h k in
      precedes_total s.entries w.arrivals_rise w.order_numbers x y
      (member_of_filter (λ (e : Queued). prefers to e.facts) s.entries x c).0
      (member_of_filter (λ (e : Queued). prefers to e.facts) s.entries y d).0 t.1 t.2;
}

masked_free : (mask : ℕ) (s : Flat) (x : Queued) → Contains (filter (λ (e : Queued). is_masked mask e.facts) s.entries) x → is_some x.facts.bound ≡ false
masked_free mask s x c =
    not-true (is_some x.facts.bound)
    (and_parts (is_unbound x.facts) (mask_has mask x.facts.bucket) (member_of_filter (λ (e : Queued). is_masked mask e.facts) s.entries x c).1).0

-- and so do those in the mask
pub masked_order : (groups mask : ℕ) (s : Flat) → WellFormed groups s → OrdersMembers (masked_before s) (filter (λ (e : Queued). is_masked mask e.facts) s.entries)
masked_order groups mask s w = record {
  irreflexive = λ x c. by_number_irreflexive (index x.facts.bucket) (precedes_in_lane s x x)
      ((unbound_strict s x.facts.bucket).irreflexive x (masked_free mask s x c, refl));
  transitive = λ x y z c d e h k.
      rises_transitive (index x.facts.bucket) (index y.facts.bucket) (index z.facts.bucket) (precedes_in_lane s x y) (precedes_in_lane s y z) (precedes_in_lane s x z)
      (λ p q. (unbound_strict s x.facts.bucket).transitive x y z
      (masked_free mask s x c, refl)
      (masked_free mask s y d, sym (bucket_from_index x.facts.bucket y.facts.bucket p))
      (masked_free mask s z e, sym (bucket_from_index x.facts.bucket z.facts.bucket (p ∙ q))))
      h k;
  total = λ x y c d h k.
      let t = rises_total (index x.facts.bucket) (index y.facts.bucket) (precedes_in_lane s x y) (precedes_in_lane s y x) h k in
      unbound_total groups s w x.facts.bucket x y
      (member_of_filter (λ (e : Queued). is_masked mask e.facts) s.entries x c).0
      (member_of_filter (λ (e : Queued). is_masked mask e.facts) s.entries y d).0
      (masked_free mask s x c, refl)
      (masked_free mask s y d, sym (bucket_from_index x.facts.bucket y.facts.bucket t.0)) t.1 t.2;
}

pub offers_in_order : (groups to mask : ℕ) (s : Flat) → WellFormed groups s → OffersInOrder to mask s
offers_in_order groups to mask s w = record { foreign = foreign_order groups to s w; masked = masked_order groups mask s w }

-- where something is offered
filter_has_member : {X : Type 0} (p : X → Bool) (xs : List X) → has_member (filter p xs) ≡ list_any p xs
filter_has_member p [] = refl
filter_has_member p (x ∷ xs) =
    elim (cases_Bool (p x)) [
      | inl e ↦ ap (λ zs. has_member zs) (cond-true (p x) (x ∷ filter p xs) (filter p xs) e) ∙ ap (λ b. b || list_any p xs) (sym e)
      | inr e ↦ ap (λ zs. has_member zs) (cond-false (p x) (x ∷ filter p xs) (filter p xs) e)
          ∙ (filter_has_member p xs ∙ ap (λ b. b || list_any p xs) (sym e))
    ]

first_there_is : {X : Type 0} (a b : Option X) → is_some (first_there a b) ≡ (is_some a || is_some b)
first_there_is None b = refl
first_there_is (Some x) b = refl

where_is : {X : Type 0} (m : Bool) (a : Option X) → is_some (cond m a None) ≡ (m && is_some a)
where_is true a = refl
where_is false a = refl

spread : (m a b c d : Bool) → ((m && (a || b)) || (c || d)) ≡ (((m && a) || c) || ((m && b) || d))
spread true true b c d = refl
spread true false true true d = refl
spread true false true false d = refl
spread true false false c d = refl
spread false a b c d = refl

any_of_both : {X : Type 0} (m : Bool) (p q : X → Bool) (xs : List X) → ((m && list_any p xs) || list_any q xs) ≡ list_any (λ x. (m && p x) || q x) xs
any_of_both true p q [] = refl
any_of_both false p q [] = refl
any_of_both m p q (x ∷ xs) = spread m (p x) (list_any p xs) (q x) (list_any q xs) ∙ ap (λ b. ((m && p x) || q x) || b) (any_of_both m p q xs)

offered_there : (groups to : ℕ) (migrate : Bool) (mask : ℕ) (s : Flat) → WellFormed groups s → is_some (offered to migrate mask s) ≡ list_any (λ (e : Queued). may_take to migrate mask e.facts) s.entries
offered_there groups to migrate mask s w =
    let fs = filter (λ (e : Queued). prefers to e.facts) s.entries in
    let ms = filter (λ (e : Queued). is_masked mask e.facts) s.entries in
    let foreign = there_under_strict foreign_before fs (strict_from_order foreign_before fs (foreign_order groups to s w))
    ∙ filter_has_member (λ (e : Queued). prefers to e.facts) s.entries in
    let masked = there_under_strict (masked_before s) ms (strict_from_order (masked_before s) ms (masked_order groups mask s w))
    ∙ filter_has_member (λ (e : Queued). is_masked mask e.facts) s.entries in
    first_there_is (cond migrate (offered_foreign to s) None) (offered_masked mask s)
    ∙ (ap₂ (λ a b. a || b) (where_is migrate (offered_foreign to s) ∙ ap (λ a. migrate && a) foreign) masked
    ∙ any_of_both migrate (λ (e : Queued). prefers to e.facts) (λ (e : Queued). is_masked mask e.facts) s.entries)

pub offers : (groups : ℕ) (setup : SetupParts) (from to : ℕ) (s : Flat) → WellFormed groups s → OffersRightly setup from to s
offers groups setup from to s w = record {
  stands = λ e h. (offered_stands to (migrates setup from to) (mask_between setup from to s.on) s e h).0;
  may = λ e h. (offered_stands to (migrates setup from to) (mask_between setup from to s.on) s e h).1;
  there = offered_there groups to (migrates setup from to) (mask_between setup from to s.on) s w;
}
