-- What a parse leaves to read of an argument that the words may leave out.
use Rattle.std.proofs.Common.{◌≡◌, ◌⊎◌, ◌∙◌, ◌<◌, ap, ℕ, Bool, false, true, List, [], ◌∷◌, length, Option, Some, None, refl, sym, subst, inl, inr, arith}
use Rattle.std.specs.Borrow.{Bor}
use Rattle.std.specs.List.{All, slice_index_or}
use Rattle.std.specs.Str.{bytes_eq}
use Rattle.std.proofs.lemmas.List.Elements.{All-get_or}
use Rattle.std.proofs.lemmas.Slice.Eq.{bytes_eq-Decides}
use Rattle.clap.specs.Facts.{Entry, EntryPasses, HasReading, PassesArg, ValuesPass, args_of, groups_of, parser_of, parser_of_value}
use Rattle.clap.specs.Built.{SameRules}
use Rattle.clap.specs.Matches.{matched_of, one_text}
use Rattle.clap.specs.Values.{Accepts, read_as, reading_of}
use Rattle.clap.specs.declared.builder.arg.Arg.{Arg}
use Rattle.clap.specs.declared.builder.command.Command.{Command}
use Rattle.clap.specs.declared.builder.value_parser.Reading.{Reading}
use Rattle.clap.specs.declared.builder.value_parser.ValueParser.{ValueParser}
use Rattle.clap.specs.declared.parser.matches.Found.{Found}
use Rattle.clap.specs.declared.parser.matches.MatchedArg.{MatchedArg}
use Rattle.clap.proofs.CallerLemmas.{entry_by_id}

-- the id has no text, or one that is read in this way and of which Q holds
abbrev pub Reads : Found → List ℕ → Reading → (List ℕ → Type 0) → Type 0
Reads f id how Q = (one_text f id ≡ None) ⊎ ((t : List ℕ) × (one_text f id ≡ Some (read_as how t)) × Q t)

-- each argument of this id has the rules of a
abbrev pub HasRulesOf : Command → List ℕ → Arg → Type 0
HasRulesOf c id a = (j : ℕ) (x : Arg) → j < length (args_of c) → slice_index_or (args_of c) j x ≡ x
    → bytes_eq x.id.now id ≡ true → SameRules a x

accepts_as : (a x : Arg) (q : ValueParser) (t : List ℕ) → SameRules a x → a.value_parser ≡ Some q → a.ignore_case ≡ false
    → Accepts x.ignore_case (parser_of x) t → Accepts false q t
accepts_as a x q t s parser case read =
    let is_q : parser_of x ≡ q = ap parser_of_value (s.parser q parser) in
    let as_q : Accepts x.ignore_case q t = subst (λ (w : ValueParser). Accepts x.ignore_case w t) is_q read in
    subst (λ (b : Bool). Accepts b q t) (s.ignore_case ∙ case) as_q

passes_as : (c : Command) (id : List ℕ) (a : Arg) (q : ValueParser) (t : List ℕ) → HasRulesOf c id a → a.value_parser ≡ Some q
    → a.ignore_case ≡ false → PassesArg c id t → Accepts false q t
passes_as c id a q t rules parser case pass =
    accepts_as a pass.1 q t (rules pass.0 pass.1 pass.2 pass.3 pass.4.0) parser case pass.4.1

reads_as : (c : Command) (id : List ℕ) (a : Arg) (q : ValueParser) (r : Reading) → HasRulesOf c id a → a.value_parser ≡ Some q
    → HasReading c id r → r ≡ reading_of q
reads_as c id a q r rules parser any =
    let s = rules any.0 any.1 any.2 any.3 any.4.0 in
    sym any.4.1 ∙ ap (λ o. reading_of (parser_of_value o)) (s.parser q parser)

-- what is read at the values of an entry
at_values : (f : Found) (id : List ℕ) (Q : List ℕ → Type 0) (how : Reading) (x : MatchedArg) (vs : List (Bor (List ℕ)))
    → matched_of f id ≡ Some x → x.vals.items ≡ vs → x.reading ≡ how → All (λ v. Q v.now) vs → Reads f id how Q
at_values f id Q how x [] found items is all = inl (rw (found, items) refl)
at_values f id Q how x (v ∷ vs) found items is all =
    inr (v.now, rw (found, items, is) refl, All-get_or (λ w. Q w.now) (v ∷ vs) 0 v (omega arith) all)

-- what an entry gives
at_entry : (c : Command) (f : Found) (id : List ℕ) (a : Arg) (q : ValueParser) (x : MatchedArg) (e : Entry)
    → groups_of c ≡ [] → (id ≡ [] → ⊥) → HasRulesOf c id a → a.value_parser ≡ Some q → a.ignore_case ≡ false
    → matched_of f id ≡ Some x → e.1 ≡ x → e.0.now ≡ id → EntryPasses c e → Reads f id (reading_of q) (Accepts false q)
at_entry c f id a q x e no_groups named rules parser case found same_x key_id pass =
    let no_group : e.1.is_group ≡ true → ⊥ = λ g. elim (pass.3 g) [
      | inl empty ↦ named (sym key_id ∙ empty)
      | inr lots ↦
          let bad : 0 < 0 = rw no_groups at lots in
          absurd (omega arith)
    ] in
    let all : All (λ v. PassesArg c id v.now) x.vals.items = elim pass.0 [
      | inl g ↦ absurd (no_group g)
      | inr vals ↦ subst (λ (w : List ℕ). All (λ v. PassesArg c w v.now) x.vals.items) key_id (rw same_x at vals)
    ] in
    let is : e.1.reading ≡ reading_of q = elim pass.4 [
      | inl g ↦ absurd (no_group g)
      | inr h ↦ reads_as c id a q e.1.reading rules parser (subst (λ (w : List ℕ). HasReading c w e.1.reading) key_id h)
    ] in
    at_values f id (Accepts false q) (reading_of q) x x.vals.items found refl (ap (λ (y : MatchedArg). y.reading) (sym same_x) ∙ is)
    (λ k d lt. passes_as c id a q (slice_index_or x.vals.items k d).now rules parser case (all k d lt))

-- the text of an argument without groups, where it has one, passed its parser
pub option_reads : (c : Command) (f : Found) (id : List ℕ) (a : Arg) (q : ValueParser) → groups_of c ≡ [] → (id ≡ [] → ⊥)
    → HasRulesOf c id a → a.value_parser ≡ Some q → a.ignore_case ≡ false → ValuesPass c f
    → Reads f id (reading_of q) (Accepts false q)
option_reads c f id a q no_groups named rules parser case values = go (matched_of f id) refl
  where
    step : (x : MatchedArg) → matched_of f id ≡ Some x
        → ((e : Entry) × (e.1 ≡ x) × (bytes_eq e.0.now id ≡ true) × EntryPasses c e) → Reads f id (reading_of q) (Accepts false q)
    step x found got =
        at_entry c f id a q x got.0 no_groups named rules parser case found got.1 ((bytes_eq-Decides got.0.0.now id).0 got.2) got.3

    go : (o : Option MatchedArg) → matched_of f id ≡ o → Reads f id (reading_of q) (Accepts false q)
    go None e = inl (rw e refl)
    go (Some x) e = step x e (entry_by_id (EntryPasses c) f.entries.items id x values e)
