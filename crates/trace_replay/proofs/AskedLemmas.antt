-- What words ask for: at no words, at words that are refused, and at two numbers.
use Rattle.std.proofs.Common.{◌≡◌, ◌≤◌, ap, ap₂, ℕ, false, List, [], ◌∷◌, Option, Some, None, refl, sym, subst, inl, inr, arith, codes, length, ne_eqb}
use Rattle.std.specs.Prelude.{IfSome, unwrap_or}
use Rattle.clap.specs.Kinds.{HasKind, IsAmong, Kinds}
use Rattle.clap.specs.Faults.{fault_of}
use Rattle.clap.specs.Values.{kind_of}
use Rattle.clap.specs.Walk.{Text, is_empty}
use Rattle.clap.specs.declared.error.Error.{Error}
use Rattle.clap.specs.declared.error.kind.ErrorKind.{ErrorKind}
use Rattle.clap.specs.declared.error.kind.ErrorKind.TheVariants as kind
use Rattle.clap.proofs.OnLiterals.{clap_on_literals}
use Rattle.trace_replay.specs.Words.{IsRefusal, LoadIsInRange, asked_by, asked_of, number_of, refusal_of, replay_command}
use Rattle.trace_replay.specs.declared.words.Asked.{Asked}
use Rattle.trace_replay.specs.declared.words.Asked.TheVariants.{Load, Replay}

-- no words ask for a replay
pub no_words : asked_by [] ≡ Some Replay
unfolding clap_on_literals asked_by replay_command
no_words = refl

-- words that the command takes ask for what their numbers ask for
pub asked_taken : (words : List Text) (seed steps : Option ℕ) → fault_of replay_command words ≡ []
    → seed ≡ number_of (codes "load") words → steps ≡ number_of (codes "steps") words → asked_by words ≡ asked_of seed steps
unfolding asked_by
asked_taken words seed steps none is_seed is_steps = rw none (sym (ap₂ asked_of is_seed is_steps))

among_some : (k : ErrorKind) (ks : Kinds) → IsAmong k ks → is_empty ks ≡ false
among_some k [] h = absurd h
among_some k (x ∷ ks) h = ne_eqb (length (x ∷ ks)) 0 (λ (e : length (x ∷ ks) ≡ 0). omega arith)

asked_none : (words : List Text) (k : ErrorKind) → IsAmong k (fault_of replay_command words) → asked_by words ≡ None
unfolding asked_by
asked_none words k among = rw (among_some k _ among) refl

refusal_from : (k : ErrorKind) (asked : Option Asked) → asked ≡ None → IsRefusal asked (refusal_of k)
refusal_from kind.OutOfMemory asked e = tt
refusal_from _ asked e = e

-- words that the command refuses ask for nothing, unless memory ran out
pub refused : (words : List Text) (e : Error) → HasKind (fault_of replay_command words) e → IsRefusal (asked_by words) (refusal_of (kind_of e))
refused words e (inl memory) = subst (λ (k : ErrorKind). IsRefusal (asked_by words) (refusal_of k)) (sym memory) tt
refused words e (inr among) = refusal_from (kind_of e) (asked_by words) (asked_none words (kind_of e) among)

same_asked : (x a : Asked) → Some x ≡ Some a → x ≡ a
same_asked x a e = ap (λ (o : Option Asked). unwrap_or o x) e

-- numbers in their ranges ask for a load in range
pub in_range : (seed steps : Option ℕ) → IfSome seed (λ n. (0 ≤ n) × (n ≤ 4294967295)) → IfSome steps (λ n. (1 ≤ n) × (n ≤ 200000))
    → (a : Asked) → asked_of seed steps ≡ Some a → LoadIsInRange a
in_range None None s n a e = subst LoadIsInRange (same_asked Replay a e) tt
in_range (Some seed) (Some steps) s n a e = subst LoadIsInRange (same_asked (Load seed steps) a e) (omega arith, n.0, n.1)
in_range None (Some steps) s n a e = cc
in_range (Some seed) None s n a e = cc
