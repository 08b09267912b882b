-- Texts in brackets, with commas between them, one after another.
use Rattle.std.proofs.Common.{◌≡◌, ℕ, zero, suc, ◌+◌, ◌<◌, ◌≤◌, List, [], ◌∷◌, ◌++◌, length, take, get_or, map, cond, refl, sym, ◌∙◌, ap, append_assoc, add-one, arith, take_all}
use Rattle.std.proofs.Math.Dec.{eqb-suc-zero}
use Rattle.std.specs.List.{join_with_byte}
use Rattle.flat_policy.specs.Texts.SetupLines.{bracketed}
use Rattle.setup_json.specs.Writes.{comma_before}

comma_later : (k : ℕ) → comma_before (suc k) ≡ 44 ∷ []
comma_later k = ap (λ b. cond b [] (44 ∷ [])) (eqb-suc-zero k)

-- one text more
joined_more : (texts : List (List ℕ)) (k : ℕ) → k < length texts
    → join_with_byte 44 (take (suc k) texts) ≡ join_with_byte 44 (take k texts) ++ (comma_before k ++ get_or texts k [])
joined_more [] k h = absurd (omega arith)
joined_more (t ∷ []) zero h = refl
joined_more (t ∷ []) (suc k) h = absurd (omega arith)
joined_more (t ∷ u ∷ ts) zero h = refl
joined_more (t ∷ u ∷ ts) (suc zero) h = refl
joined_more (t ∷ u ∷ ts) (suc (suc k)) h =
    let begun = join_with_byte 44 (u ∷ take k ts) in
    ap (λ (rest : List ℕ). t ++ (44 ∷ rest)) (joined_more (u ∷ ts) (suc k) (omega arith))
    ∙ ap (λ (comma : List ℕ). t ++ (44 ∷ (begun ++ (comma ++ get_or ts k [])))) (comma_later k ∙ sym (comma_later (suc k)))
    ∙ sym (append_assoc t (44 ∷ begun) (comma_before (suc (suc k)) ++ get_or ts k []))

-- what is written once k of the texts are, behind what stood there
pub record IsBegun (old : List ℕ) (texts : List (List ℕ)) (k : ℕ) (new : List ℕ) : Type 0 where
  pub is : new ≡ old ++ (91 ∷ join_with_byte 44 (take k texts))

pub list_begins : (old : List ℕ) (texts : List (List ℕ)) (new : List ℕ) → new ≡ old ++ 91 ∷ [] → IsBegun old texts 0 new
list_begins old texts new h = record { is = h }

pub list_goes_on : (old : List ℕ) (texts : List (List ℕ)) (k : ℕ) (text mid behind new : List ℕ) → IsBegun old texts k mid → k < length texts
    → behind ≡ mid ++ comma_before k → new ≡ behind ++ text → text ≡ get_or texts k [] → IsBegun old texts (k + 1) new
list_goes_on old texts k text mid behind new so_far within comma added this = record {
  is = added
      ∙ ap (λ (b : List ℕ). b ++ text) (comma ∙ ap (λ (m : List ℕ). m ++ comma_before k) so_far.is)
      ∙ ap (λ (t : List ℕ). ((old ++ (91 ∷ join_with_byte 44 (take k texts))) ++ comma_before k) ++ t) this
      ∙ append_assoc (old ++ (91 ∷ join_with_byte 44 (take k texts))) (comma_before k) (get_or texts k [])
      ∙ append_assoc old (91 ∷ join_with_byte 44 (take k texts)) (comma_before k ++ get_or texts k [])
      ∙ ap (λ (j : List ℕ). old ++ (91 ∷ j)) (sym (joined_more texts k within))
      ∙ ap (λ (n : ℕ). old ++ (91 ∷ join_with_byte 44 (take n texts))) (sym (add-one k));
}

pub list_ends : (old : List ℕ) (texts : List (List ℕ)) (k : ℕ) (mid new : List ℕ) → IsBegun old texts k mid → length texts ≤ k
    → new ≡ mid ++ 93 ∷ [] → new ≡ old ++ bracketed texts
list_ends old texts k mid new so_far past added =
    added
    ∙ ap (λ (m : List ℕ). m ++ 93 ∷ []) (so_far.is ∙ ap (λ (ts : List (List ℕ)). old ++ (91 ∷ join_with_byte 44 ts)) (take_all k texts past))
    ∙ append_assoc old (91 ∷ join_with_byte 44 texts) (93 ∷ [])

-- an item of a mapped list
pub mapped_at : {A : Type 0} → (f : A → List ℕ) (xs : List A) (k : ℕ) (d : A) → k < length xs → f (get_or xs k d) ≡ get_or (map f xs) k []
mapped_at f [] k d h = absurd (omega arith)
mapped_at f (x ∷ xs) zero d h = refl
mapped_at f (x ∷ xs) (suc k) d h = mapped_at f xs k d (omega arith)

-- the items of a list of six
pub six_items : {A : Type 0} → (xs : List A) (d : A) → length xs ≡ 6
    → get_or xs 0 d ∷ get_or xs 1 d ∷ get_or xs 2 d ∷ get_or xs 3 d ∷ get_or xs 4 d ∷ get_or xs 5 d ∷ [] ≡ xs
six_items [] d h = absurd (omega arith)
six_items (a ∷ []) d h = absurd (omega arith)
six_items (a ∷ b ∷ []) d h = absurd (omega arith)
six_items (a ∷ b ∷ c ∷ []) d h = absurd (omega arith)
six_items (a ∷ b ∷ c ∷ e ∷ []) d h = absurd (omega arith)
six_items (a ∷ b ∷ c ∷ e ∷ f ∷ []) d h = absurd (omega arith)
six_items (a ∷ b ∷ c ∷ e ∷ f ∷ g ∷ []) d h = refl
six_items (a ∷ b ∷ c ∷ e ∷ f ∷ g ∷ i ∷ xs) d h = absurd (omega arith)
