-- A piece that is none of the words of acts.
use Rattle.std.proofs.Common.{[], codes, List, refl, ℕ, ◌≡◌, ◌∷◌, Err, false}
use Rattle.flat_policy.specs.Texts.Steps.{act_at}
use Rattle.trace_text.specs.Naming.{NoFrequentAct}
use Rattle.trace_text.specs.Reading.{is_next}
use Rattle.flat_policy.specs.declared.texts.LineFault.TheVariants as line_faults

pub no_act : (ps : List (List ℕ)) → NoFrequentAct ps → is_next (codes "blocked") ps ≡ false → is_next (codes "refresh") ps ≡ false → is_next (codes "make") ps ≡ false → is_next (codes "end") ps ≡ false → is_next (codes "pull") ps ≡ false → is_next (codes "on") ps ≡ false → is_next (codes "off") ps ≡ false → act_at ps ≡ Err line_faults.Word
no_act [] frequent blocked refresh make end pull on off = refl
no_act (p ∷ ps) frequent blocked refresh make end pull on off =
    rw (make, frequent.enter, frequent.select, frequent.offer, pull, frequent.looks, frequent.aim, frequent.ran, frequent.sleep, frequent.wake, end, blocked, refresh, off, on) refl
