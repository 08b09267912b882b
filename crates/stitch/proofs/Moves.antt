-- Lists put together out of parts, each of which is what passes a test of its own: taking the next line, wherever it goes on to such a list.
use Rattle.std.proofs.Common.{◌≡◌, ◌⊎◌, Bool, true, false, List, [], ◌∷◌, ◌++◌, length, Option, Some, None, filter, refl, sym, ap, ◌∙◌, subst, inl, inr, append_assoc, append-nil}
use Rattle.std.specs.List.{slice_get}
use Rattle.std.proofs.lemmas.Bool.{cases_Bool, cond-true}
use Rattle.std.proofs.lemmas.List.Elements.{filter-append}
use Rattle.std.proofs.lemmas.Option.{none-some}
use Rattle.flat_policy.specs.declared.journal.Line.{Line}
use Rattle.flat_policy.specs.Runs.Interleaving.{EachLine}
use Rattle.stitch.proofs.Parts.{cut_at_first, get_behind, list_cases, more_fails, more_passes, moved_to_front, none_is_first, rest_begins}

-- a list is put together out of its parts, and each of its lines is given
pub record Weaves (I : Type 0) (test : I → Line → Bool) (part : I → List Line) (G : Line → Type 0) (history : List Line) : Type 0 where
  pub parts : (i : I) → filter (test i) history ≡ part i
  pub given : EachLine G history

-- a line is the next of each part that it belongs to
pub record IsNext (I : Type 0) (test : I → Line → Bool) (part : I → List Line) (G : Line → Type 0) (history : List Line) (l : Line) : Type 0 where
  pub next : (i : I) → test i l ≡ true → slice_get (part i) (length (filter (test i) history)) ≡ Some l
  pub given : G l

pub each_front : (G : Line → Type 0) (xs ys : List Line) → EachLine G (xs ++ ys) → EachLine G xs
each_front G [] ys h = tt
each_front G (x ∷ xs) ys h = (h.0, each_front G xs ys h.1)

pub each_back : (G : Line → Type 0) (xs ys : List Line) → EachLine G (xs ++ ys) → EachLine G ys
each_back G [] ys h = h
each_back G (x ∷ xs) ys h = each_back G xs ys h.1

pub each_both : (G : Line → Type 0) (xs ys : List Line) → EachLine G xs → EachLine G ys → EachLine G (xs ++ ys)
each_both G [] ys h k = k
each_both G (x ∷ xs) ys h k = (h.0, each_both G xs ys h.1 k)

-- what is left of a part begins with the line that is its next
left_begins : (I : Type 0) (test : I → Line → Bool) (part : I → List Line) (G : Line → Type 0) (taken left : List Line) (l : Line) → IsNext I test part G taken l → Weaves I test part G (taken ++ left)
    → (i : I) → test i l ≡ true → (zs : List Line) × (filter (test i) left ≡ l ∷ zs)
left_begins I test part G taken left l n w i h =
    rest_begins (filter (test i) taken) (filter (test i) left) l
    (subst (λ (xs : List Line). slice_get xs (length (filter (test i) taken)) ≡ Some l) (sym (w.parts i) ∙ filter-append (test i) taken left) (n.next i h))

-- before the line that is the next of one part and of another stands none of the other, where none of the one does
none_before : (I : Type 0) (test : I → Line → Bool) (left front back : List Line) (l : Line) (i j : I) (zs : List Line) → left ≡ front ++ l ∷ back → filter (test i) front ≡ [] → test i l ≡ true → filter (test j) left ≡ l ∷ zs → filter (test j) front ≡ []
none_before I test left front back l i j zs cut none h first =
    elim (list_cases (filter (test j) front)) [
      | inl e ↦ e
      | inr m ↦ (let begins : m.0 ∷ (m.1 ++ filter (test j) (l ∷ back)) ≡ l ∷ zs = ap (λ (xs : List Line). xs ++ filter (test j) (l ∷ back)) (sym m.2) ∙ sym (filter-append (test j) front (l ∷ back)) ∙ ap (filter (test j)) (sym cut) ∙ first in
          let same : m.0 ≡ l = cc in
          absurd (none_is_first (test i) (test j) front m.0 m.1 none m.2 (ap (test i) same ∙ h)))
    ]

-- the next line can be taken first: what is left goes on from it to a whole
pub goes_on : (I : Type 0) (test : I → Line → Bool) (part : I → List Line) (G : Line → Type 0) (taken left : List Line) (l : Line) (i : I) → test i l ≡ true → IsNext I test part G taken l → Weaves I test part G (taken ++ left)
    → (rest : List Line) × Weaves I test part G (taken ++ l ∷ rest)
goes_on I test part G taken left l i h n w =
    let own = left_begins I test part G taken left l n w i h in
    let cut = cut_at_first (test i) left l own.0 own.1 in
    let front : List Line = cut.0 in
    let back : List Line = cut.1 in
    let each : EachLine G (front ++ l ∷ back) = subst (EachLine G) cut.2 (each_back G taken left w.given) in
    let behind : EachLine G (l ∷ back) = each_back G front (l ∷ back) each in (
      front ++ back,
      record {
        parts = λ j.
            filter-append (test j) taken (l ∷ (front ++ back))
            ∙ ap (λ (xs : List Line). filter (test j) taken ++ xs)
            (moved_to_front (test j) front l back
            (λ k. let begins = left_begins I test part G taken left l n w j k in
            none_before I test left front back l i j begins.0 cut.2 cut.3 h begins.1)
            ∙ ap (filter (test j)) (sym cut.2))
            ∙ sym (filter-append (test j) taken left)
            ∙ w.parts j;
        given = each_both G taken (l ∷ (front ++ back)) (each_front G taken left w.given)
            (behind.0, each_both G front back (each_front G front (l ∷ back) each) behind.1);
      },
    )

-- the line behind those taken is the next
behind_is_next : (I : Type 0) (test : I → Line → Bool) (part : I → List Line) (G : Line → Type 0) (taken : List Line) (l : Line) (rest : List Line) → Weaves I test part G (taken ++ l ∷ rest) → IsNext I test part G taken l
behind_is_next I test part G taken l rest w = record {
  next = λ i h.
      subst (λ (xs : List Line). slice_get xs (length (filter (test i) taken)) ≡ Some l)
      (ap (λ (xs : List Line). filter (test i) taken ++ xs) (sym (cond-true (test i l) (l ∷ filter (test i) rest) (filter (test i) rest) h))
      ∙ sym (filter-append (test i) taken (l ∷ rest)) ∙ w.parts i)
      (get_behind (filter (test i) taken) l (filter (test i) rest));
  given = (each_back G taken (l ∷ rest) w.given).0;
}

-- where no line is the next, nothing is left
pub nothing_left : (I : Type 0) (test : I → Line → Bool) (part : I → List Line) (G : Line → Type 0) (taken left : List Line) → Weaves I test part G (taken ++ left) → ((l : Line) → IsNext I test part G taken l → ⊥) → left ≡ []
nothing_left I test part G taken [] w stuck = refl
nothing_left I test part G taken (l ∷ rest) w stuck = absurd (stuck l (behind_is_next I test part G taken l rest w))

-- what was taken is the front of a part
abbrev pub IsFront : (I : Type 0) → (I → Line → Bool) → (I → List Line) → List Line → I → Type 0
IsFront I test part history i = (rest : List Line) × (filter (test i) history ++ rest ≡ part i)

pub front_grows : (I : Type 0) (test : I → Line → Bool) (part : I → List Line) (G : Line → Type 0) (history : List Line) (l : Line) (i : I) → IsFront I test part history i → IsNext I test part G history l → IsFront I test part (history ++ l ∷ []) i
front_grows I test part G history l i front n =
    elim (cases_Bool (test i l)) [
      | inl h ↦ (let rest = rest_begins (filter (test i) history) front.0 l (subst (λ (xs : List Line). slice_get xs (length (filter (test i) history)) ≡ Some l) (sym front.1) (n.next i h)) in
          (rest.0, ap (λ (xs : List Line). xs ++ rest.0) (more_passes (test i) history l h) ∙ append_assoc (filter (test i) history) (l ∷ []) rest.0 ∙ ap (λ (xs : List Line). filter (test i) history ++ xs) (sym rest.1) ∙ front.1))
      | inr h ↦ (front.0, ap (λ (xs : List Line). xs ++ front.0) (more_fails (test i) history l h) ∙ front.1)
    ]

-- a part without a line left is whole
pub front_is_whole : (xs ys rest : List Line) → xs ++ rest ≡ ys → slice_get ys (length xs) ≡ None → xs ≡ ys
front_is_whole xs ys [] e none = sym (append-nil xs) ∙ e
front_is_whole xs ys (y ∷ rest) e none =
    absurd (none-some y (sym none ∙ ap (λ (zs : List Line). slice_get zs (length xs)) (sym e) ∙ get_behind xs y rest))
