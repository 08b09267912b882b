-- What is offered, by the slots of those that go first.
use Rattle.std.proofs.Common.{◌≡◌, ℕ, true, false, Option, Some, None, is_some, sym, ap, ◌∙◌}
use Rattle.std.specs.Prelude.{IfSome, option_map}
use Rattle.std.proofs.lemmas.Bool.{false≢true}
use Rattle.flat_policy.specs.Policy.Offer.{first_there, offered, offered_foreign, offered_masked}
use Rattle.flat_policy.specs.Policy.Queue.{Flat}
use Rattle.link_arena.specs.Arena.{Arena, IsLive, value_at}
use Rattle.thread_queue.specs.Item.{entry_of}
use Rattle.thread_queue.specs.declared.item.Item.{Item}
use Rattle.cluster_queue.specs.Moves.{entry_in}
use Rattle.cluster_queue.proofs.Held.{some_from}

-- of those that prefer the other cluster, where there is one
pub foreign_offered : (to mask : ℕ) (s : Flat) (arena : Arena Item) (o : Option ℕ) → IfSome o (λ slot. IsLive arena slot) → is_some o ≡ true → entry_in arena o ≡ offered_foreign to s → entry_in arena o ≡ offered to true mask s
foreign_offered to mask s arena None live some is = absurd (false≢true some)
foreign_offered to mask s arena (Some slot) live some is =
    let item = some_from (value_at arena slot) live in
    let here : entry_in arena (Some slot) ≡ Some (entry_of item.0) = ap (option_map entry_of) item.1 in
    here ∙ ap (λ e. first_there e (offered_masked mask s)) (sym here ∙ is)

-- otherwise of those in the mask
pub masked_offered : (to mask : ℕ) (s : Flat) (arena : Arena Item) (o : Option ℕ) → is_some o ≡ false → entry_in arena o ≡ offered_foreign to s → offered_masked mask s ≡ offered to true mask s
masked_offered to mask s arena None none is = ap (λ e. first_there e (offered_masked mask s)) is
masked_offered to mask s arena (Some slot) none is = absurd (false≢true (sym none))
