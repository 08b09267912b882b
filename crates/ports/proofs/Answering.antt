-- Answers of a feed that are no line.
use Rattle.std.proofs.Common.{◌≢◌, ℕ, List, Option, refl}
use Rattle.ports.specs.Feeds.{Feed}
use Rattle.ports.specs.LineFeed.{IsFed, Stops, counted}
use Rattle.ports.specs.Seeking.{IsFound}
use Rattle.ports.specs.declared.line_feed.Fed.{Fed}
use Rattle.ports.specs.declared.line_feed.Fed.TheVariants.{Line, Long, Unfinished, End, Fault, Over}

-- an answer that isn't a line ends the feed
pub fed-stop : (limit : ℕ) (left : Option (List ℕ)) (before now n : ℕ) (feed : Feed) (answer : Fed) → answer ≢ Line → Stops feed →
    IsFound limit (counted feed) left before now feed.held n answer → IsFed limit left before now feed answer
fed-stop limit left before now n feed Line other stops found = absurd (other refl)
fed-stop limit left before now n feed Long other stops found = (stops, found)
fed-stop limit left before now n feed Over other stops found = (stops, found)
fed-stop limit left before now n feed Unfinished other stops found = (stops, found.0, found.1, found.2)
fed-stop limit left before now n feed End other stops found = (stops, found.1, found.2)
fed-stop limit left before now n feed Fault other stops found = (stops, found.0, found.1)
