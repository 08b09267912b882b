-- The replay's command: what clap's clauses see of it, and what they give of its two numbers.
use Rattle.std.proofs.Common.{◌≡◌, ◌∙◌, ◌<◌, ◌≤◌, ◌^◌, ap, ℕ, false, true, List, [], ◌∷◌, length, map, Option, Some, None, Ok, Result, refl, sym, subst, inl, inr, arith, codes, zero, suc}
use Rattle.std.specs.Prelude.{IfSome, option_map, pos}
use Rattle.std.specs.List.{All, slice_index, slice_index_or}
use Rattle.std.specs.Str.{bytes_eq}
use Rattle.std.specs.Str.Parse.{ParsesUnsigned, digits_value, without_leading_plus}
use Rattle.std.proofs.lemmas.Bool.{eqb-false}
use Rattle.std.proofs.lemmas.List.Elements.{All-cons, All-nil}
use Rattle.std.proofs.lemmas.Slice.Eq.{bytes_eq-Decides}
use Rattle.clap.specs.Facts.{args_of, groups_of}
use Rattle.clap.specs.Built.{IsAuto, IsParsedFrom, IsPlain, IsPlainArg}
use Rattle.clap.specs.Kinds.{Kinds}
use Rattle.clap.specs.Lexer.{without_minus}
use Rattle.clap.specs.Matches.{ReadsOne, found_of, one_text}
use Rattle.clap.specs.Simple.{App, HasMatchesOf, app_of, has_plain_fields, is_simple}
use Rattle.clap.specs.Walk.{Rule, Text, is_free_arg, is_simple_arg, one_of, rule_of}
use Rattle.clap.specs.Faults.{fault_of, is_simple_and_free}
use Rattle.clap.specs.Values.{Accepts}
use Rattle.clap.specs.declared.builder.arg.Arg.{Arg}
use Rattle.clap.specs.declared.builder.command.Command.{Command}
use Rattle.clap.specs.declared.builder.command.Command.TheViews.{out-Command}
use Rattle.clap.specs.declared.builder.value_parser.Reading.TheVariants.{WithoutMinus}
use Rattle.clap.specs.declared.builder.value_parser.ValueParser.{ValueParser}
use Rattle.clap.specs.declared.builder.value_parser.ValueParser.TheVariants.{Signed}
use Rattle.clap.specs.declared.parser.matches.ArgMatches.{ArgMatches}
use Rattle.clap.specs.declared.parser.matches.Found.{Found}
use Rattle.clap.proofs.CallerLemmas.{same_rules_by_id}
use Rattle.clap.proofs.CallerReads.{signed_reads}
use Rattle.clap.proofs.OnLiterals.{clap_on_literals}
use Rattle.clap.proofs.SimpleLemmas.{is_false, is_nil}
use Rattle.clap.proofs.WalkLemmas.{both, one_text-rows}
use Rattle.trace_replay.specs.Words.{number_of, number_rule, replay_command}
use Rattle.trace_replay.proofs.OptionReads.{HasRulesOf, Reads, option_reads}

abbrev load_parser : ValueParser
load_parser = Signed (pos 0) (pos 4294967295)

abbrev steps_parser : ValueParser
steps_parser = Signed (pos 1) (pos 200000)

abbrev load_rule : Rule
load_rule = number_rule (codes "load") load_parser

abbrev steps_rule : Rule
steps_rule = number_rule (codes "steps") steps_parser

-- ---- the command is one of which clap's clauses are exact

pub is_simple_command : is_simple replay_command ≡ true
unfolding clap_on_literals replay_command
is_simple_command = refl

pub is_free_command : is_simple_and_free replay_command ≡ true
unfolding clap_on_literals replay_command
is_free_command = refl

-- what the faults of a command of this shape are
pub fault_is : (c : Command) (words : List Text) (P : Kinds → Type 0) → app_of c ≡ replay_command
    → (is_simple_and_free (app_of c) ≡ true → P (fault_of (app_of c) words)) → P (fault_of replay_command words)
fault_is c words P is h = subst (λ (a : App). P (fault_of a words)) is (h (ap is_simple_and_free is ∙ is_free_command))

-- ---- its arguments

plain_arg : (a : Arg) → is_simple_arg a ≡ true → is_free_arg a ≡ true → IsPlainArg a
plain_arg a simple free =
    let overrides = both _ _ simple in
    let ifs = both _ _ overrides.1 in
    let groups = both _ _ ifs.1 in
    let exclusive = both _ _ free in
    let conflicts = both _ _ exclusive.1 in
    (is_false _ exclusive.0, is_nil _ conflicts.0, is_nil _ overrides.0, is_nil _ groups.0)

-- an argument has this rule, which is simple and free
abbrev HasRule : Arg → Text → ValueParser → Type 0
HasRule a name parser = rule_of a ≡ number_rule name parser

plain_by_rule : (a : Arg) (name : Text) (parser : ValueParser) → HasRule a name parser → IsPlainArg a
plain_by_rule a name parser is = plain_arg a (ap (λ (r : Rule). r.is_simple) is) (ap (λ (r : Rule). r.is_free) is)

two_items : {X Y : Type 0} (f : X → Y) (xs : List X) (r s : Y) → map f xs ≡ r ∷ s ∷ []
    → (a : X) × (b : X) × (xs ≡ a ∷ b ∷ []) × (f a ≡ r) × (f b ≡ s)
two_items f [] r s e = cc
two_items f (a ∷ []) r s e = cc
two_items f (a ∷ b ∷ []) r s e = (a, b, refl, cc, cc)
two_items f (a ∷ b ∷ x ∷ xs) r s e = cc

-- what the command's shape says of its arguments
record TwoOptions (c : Command) : Type 0 where
  load : Arg
  steps : Arg
  args : args_of c ≡ load ∷ steps ∷ []
  load_is : rule_of load ≡ load_rule
  steps_is : rule_of steps ≡ steps_rule
  groups : groups_of c ≡ []
  globals : (out-Command c).has_globals ≡ false

two_options : (c : Command) → app_of c ≡ replay_command → TwoOptions c
unfolding replay_command
two_options c e =
    let xs = two_items rule_of (args_of c) load_rule steps_rule (ap (λ (p : App). p.top.rules) e) in
    let plain : has_plain_fields (out-Command c) ≡ true = ap (λ (p : App). p.top.is_plain) e in
    let groups = both _ _ plain in
    let external = both _ _ groups.1 in
    let globals = both _ _ external.1 in
    record {
      load = xs.0;
      steps = xs.1;
      args = xs.2;
      load_is = xs.3;
      steps_is = xs.4;
      groups = is_nil _ groups.0;
      globals = is_false _ globals.0;
    }

plain_command : (c : Command) → TwoOptions c → IsPlain c
plain_command c two = (
  subst (All IsPlainArg) (sym two.args)
      (All-cons IsPlainArg two.load (two.steps ∷ []) (plain_by_rule two.load _ _ two.load_is)
      (All-cons IsPlainArg two.steps [] (plain_by_rule two.steps _ _ two.steps_is) (All-nil IsPlainArg))),
  two.groups,
)

-- ---- the rules of the built command's arguments

-- no text that begins with this letter is another that doesn't
first_letter : (s t : Text) → s ≡ t → slice_index s 0 ≡ slice_index t 0
first_letter s t e = ap (λ (x : Text). slice_index x 0) e

abbrev Unique : List Arg → ℕ → Arg → Type 0
Unique xs k a = (j : ℕ) (e : Arg) → j < length xs → bytes_eq (slice_index_or xs j e).id.now (slice_index_or xs k a).id.now ≡ true → j ≡ k

load_unique : (a b : Arg) → a.id.now ≡ codes "load" → b.id.now ≡ codes "steps" → Unique (a ∷ b ∷ []) 0 a
load_unique a b is other zero e lt same = refl
load_unique a b is other (suc zero) e lt same =
    absurd (eqb-false 115 108 refl (first_letter (codes "steps") (codes "load") (sym other ∙ ((bytes_eq-Decides b.id.now a.id.now).0 same ∙ is))))
load_unique a b is other (suc (suc j)) e lt same = absurd (omega arith)

steps_unique : (a b : Arg) → a.id.now ≡ codes "load" → b.id.now ≡ codes "steps" → Unique (a ∷ b ∷ []) 1 b
steps_unique a b is other zero e lt same =
    absurd (eqb-false 108 115 refl (first_letter (codes "load") (codes "steps") (sym is ∙ ((bytes_eq-Decides a.id.now b.id.now).0 same ∙ other))))
steps_unique a b is other (suc zero) e lt same = refl
steps_unique a b is other (suc (suc j)) e lt same = absurd (omega arith)

-- a text of another first letter is no flag's that building adds
not_auto : (a : Arg) (name : Text) → a.id.now ≡ name → (slice_index name 0 ≡ 104 → ⊥) → (slice_index name 0 ≡ 118 → ⊥) → IsAuto a → ⊥
not_auto a name is no_h no_v auto = elim auto [
  | inl h ↦ no_h (first_letter _ _ (sym is ∙ h))
  | inr v ↦ no_v (first_letter _ _ (sym is ∙ v))
]

-- the built command's arguments of the id of the k-th of the caller's have its rules
rules_at : (c : Command) (m : ArgMatches) (p : IsParsedFrom c m) (xs : List Arg) (k : ℕ) (a : Arg) → args_of c ≡ xs
    → slice_index_or xs k a ≡ a → k < length xs → Unique xs k a → (IsAuto a → ⊥) → HasRulesOf p.built a.id.now a
rules_at c m p xs k a args at lt unique own j x high is same =
    let here : slice_index_or (args_of c) k a ≡ a = ap (λ (l : List Arg). slice_index_or l k a) args ∙ at in
    let found = same_rules_by_id c m p k a (subst (λ (l : List Arg). k < length l) (sym args) lt)
    (subst (λ (l : List Arg). Unique l k a) (sym args) unique) (subst (λ (b : Arg). IsAuto b → ⊥) (sym here) own)
    j x high is (subst (λ (b : Arg). bytes_eq x.id.now b.id.now ≡ true) (sym here) same) in
    rw here at found

-- what the parse leaves to read of the k-th argument
reads_at : (c : Command) (m : ArgMatches) → IsParsedFrom c m → (two : TwoOptions c) → (k : ℕ) (a : Arg) (name : Text) (q : ValueParser)
    → slice_index_or (two.load ∷ two.steps ∷ []) k a ≡ a → k < 2 → Unique (two.load ∷ two.steps ∷ []) k a → HasRule a name q
    → (slice_index name 0 ≡ 104 → ⊥) → (slice_index name 0 ≡ 118 → ⊥) → (slice_index name 0 ≡ 0 → ⊥)
    → Reads (found_of m) name (Rattle.clap.specs.Values.reading_of q) (Accepts false q)
reads_at c m p two k a name q at lt unique is no_h no_v no_0 =
    let id : a.id.now ≡ name = ap (λ (r : Rule). r.id) is in
    let rules : HasRulesOf p.built name a = subst (λ (t : Text). HasRulesOf p.built t a) id
    (rules_at c m p (two.load ∷ two.steps ∷ []) k a two.args at lt unique (not_auto a name id no_h no_v)) in
    let plain = p.from.plain (plain_command c two) in
    option_reads p.built (found_of m) name a q plain.1 (λ empty. no_0 (first_letter _ _ empty)) rules
    (ap (λ (r : Rule). r.parser) is) (ap (λ (r : Rule). r.ignore_case) is) (p.parsed (p.from.globals ∙ two.globals)).values

-- ---- its numbers

abbrev number_in : Text → ℕ
number_in text = digits_value 10 (without_leading_plus text)

-- a number was read of the text that was found, and lies within the bounds
abbrev IsRead : Found → Text → ℕ → ℕ → Option ℕ → Type 0
IsRead f name low high r = (r ≡ option_map number_in (one_text f name)) × IfSome r (λ n. (low ≤ n) × (n ≤ high))

number_read : (E : Type 0) (G : List ℕ → Result ℕ E → Type 0) (f : Found) (name : Text) (low high : ℕ) (r : Option ℕ)
    → (one_text f name ≡ None → r ≡ None) → ((t : List ℕ) → one_text f name ≡ Some t → ReadsOne G t r)
    → ((u : List ℕ) (x : Result ℕ E) → G u x → ParsesUnsigned 32 10 u x) → high < 2 ^ 32
    → Reads f name WithoutMinus (Accepts false (Signed (pos low) (pos high))) → IsRead f name low high r
number_read E G f name low high r none value only fits (inl absent) = rw (absent, none absent) (refl, tt)
number_read E G f name low high r none value only fits (inr read) =
    let one : ReadsOne G (without_minus read.0) r = value (without_minus read.0) read.1 in
    let got = signed_reads E G 32 low high read.0 r one only fits read.2 in
    let parsed = only (without_minus read.0) (Ok got.0) (rw got.1 at one) in
    let is : got.0 ≡ number_in (without_minus read.0) = parsed.1 in
    rw (read.1, got.1) (ap (λ (n : ℕ). Some n) is, (got.2, got.3))

-- the text that is found is the one that the words give
text_is : (c : Command) (m : ArgMatches) (words : List Text) (name : Text) → app_of c ≡ replay_command → HasMatchesOf (app_of c) words m
    → option_map number_in (one_text (found_of m) name) ≡ number_of name words
text_is c m words name is has =
    let rows = (subst (λ (p : App). HasMatchesOf p words m) is has is_simple_command).0 in
    ap (option_map number_in) (one_text-rows (found_of m) name ∙ ap (one_of name) rows)

-- the seed that is read is the one that the words give
pub seed_read : (c : Command) (m : ArgMatches) (words : List Text) (E : Type 0) (G : List ℕ → Result ℕ E → Type 0) (r : Option ℕ)
    → app_of c ≡ replay_command → IsParsedFrom c m → HasMatchesOf (app_of c) words m
    → (one_text (found_of m) (codes "load") ≡ None → r ≡ None)
    → ((t : List ℕ) → one_text (found_of m) (codes "load") ≡ Some t → ReadsOne G t r)
    → ((u : List ℕ) (x : Result ℕ E) → G u x → ParsesUnsigned 32 10 u x)
    → (r ≡ number_of (codes "load") words) × IfSome r (λ n. (0 ≤ n) × (n ≤ 4294967295))
seed_read c m words E G r is parsed has none value only =
    let two = two_options c is in
    let reads = reads_at c m parsed two 0 two.load (codes "load") load_parser refl (omega arith)
    (load_unique two.load two.steps (ap (λ (x : Rule). x.id) two.load_is) (ap (λ (x : Rule). x.id) two.steps_is)) two.load_is
    (eqb-false 108 104 refl) (eqb-false 108 118 refl)
    (eqb-false 108 0 refl) in
    let read = number_read E G (found_of m) (codes "load") 0 4294967295 r none value only (omega arith) reads in
    (read.0 ∙ text_is c m words (codes "load") is has, read.1)

-- and the number of steps
pub steps_read : (c : Command) (m : ArgMatches) (words : List Text) (E : Type 0) (G : List ℕ → Result ℕ E → Type 0) (r : Option ℕ)
    → app_of c ≡ replay_command → IsParsedFrom c m → HasMatchesOf (app_of c) words m
    → (one_text (found_of m) (codes "steps") ≡ None → r ≡ None)
    → ((t : List ℕ) → one_text (found_of m) (codes "steps") ≡ Some t → ReadsOne G t r)
    → ((u : List ℕ) (x : Result ℕ E) → G u x → ParsesUnsigned 32 10 u x)
    → (r ≡ number_of (codes "steps") words) × IfSome r (λ n. (1 ≤ n) × (n ≤ 200000))
steps_read c m words E G r is parsed has none value only =
    let two = two_options c is in
    let reads = reads_at c m parsed two 1 two.steps (codes "steps") steps_parser refl (omega arith)
    (steps_unique two.load two.steps (ap (λ (x : Rule). x.id) two.load_is) (ap (λ (x : Rule). x.id) two.steps_is)) two.steps_is
    (eqb-false 115 104 refl) (eqb-false 115 118 refl)
    (eqb-false 115 0 refl) in
    let read = number_read E G (found_of m) (codes "steps") 1 200000 r none value only (omega arith) reads in
    (read.0 ∙ text_is c m words (codes "steps") is has, read.1)
