use Rattle.std.proofs.Common.{[], ◌∷◌, refl}
use Rattle.sched_base.specs.declared.Bucket.{Bucket}
use Rattle.sched_base.specs.declared.Bucket.TheVariants.{Bg, Df, Fg, Ini, Ui, Ut}
use Rattle.std.specs.Prelude.{true}
use Rattle.flat_policy.specs.Policy.Queue.{empty_flat, lane, lane_entries}
use Rattle.cluster_queue.specs.Heaps.{BoundFollows, LaneFollows, bound_at, lane_at}
use Rattle.cluster_queue.specs.declared.heaps.Heaps.{Heaps}
use Rattle.cluster_queue.proofs.Beginning.{bound_begins, by_bucket, lane_begins, loose_begins}
use Rattle.cluster_queue.proofs.heaps.Heaps.new.Goals as goal

pub returns-clause-follows : goal.returns-clause-follows
returns-clause-follows c = λ arena is.
    let count = c.args.groups in
    let heaps : Heaps = record {
      lanes = c.in_ok-ui.ui ∷ c.in_ok-fg.fg ∷ c.in_ok-ini.ini ∷ c.in_ok-df.df ∷ c.in_ok-ut.ut ∷ c.in_ok-bg.bg ∷ [];
      bound = c.new-7.result ∷ c.new-8.result ∷ c.new-9.result ∷ c.new-10.result ∷ c.new-11.result ∷ c.new-12.result ∷ [];
      foreign = c.new-13.result;
      slots = c.reserve.new.self;
    } in
    record {
      six = record { lanes = refl; bound = refl };
      lanes = by_bucket (λ (b : Bucket). LaneFollows arena (lane_at heaps b) count b (empty_flat count))
          (lane_begins arena c.in_ok-ui.ui count Ui c.in_ok-ui.ensures.made (c.in_ok-ui.ensures.follows arena))
          (lane_begins arena c.in_ok-fg.fg count Fg c.in_ok-fg.ensures.made (c.in_ok-fg.ensures.follows arena))
          (lane_begins arena c.in_ok-ini.ini count Ini c.in_ok-ini.ensures.made (c.in_ok-ini.ensures.follows arena))
          (lane_begins arena c.in_ok-df.df count Df c.in_ok-df.ensures.made (c.in_ok-df.ensures.follows arena))
          (lane_begins arena c.in_ok-ut.ut count Ut c.in_ok-ut.ensures.made (c.in_ok-ut.ensures.follows arena))
          (lane_begins arena c.in_ok-bg.bg count Bg c.in_ok-bg.ensures.made (c.in_ok-bg.ensures.follows arena));
      bound = by_bucket (λ (b : Bucket). BoundFollows arena (bound_at heaps b) (lane_entries (empty_flat count) (lane b true)))
          (bound_begins arena c.new-7.result c.new-7.ensures.empty (c.new-7.ensures.stands arena) (c.new-7.ensures.none arena))
          (bound_begins arena c.new-8.result c.new-8.ensures.empty (c.new-8.ensures.stands arena) (c.new-8.ensures.none arena))
          (bound_begins arena c.new-9.result c.new-9.ensures.empty (c.new-9.ensures.stands arena) (c.new-9.ensures.none arena))
          (bound_begins arena c.new-10.result c.new-10.ensures.empty (c.new-10.ensures.stands arena) (c.new-10.ensures.none arena))
          (bound_begins arena c.new-11.result c.new-11.ensures.empty (c.new-11.ensures.stands arena) (c.new-11.ensures.none arena))
          (bound_begins arena c.new-12.result c.new-12.ensures.empty (c.new-12.ensures.stands arena) (c.new-12.ensures.none arena));
      foreign = c.new-13.ensures.offers arena;
      loose = λ slot lacks. loose_begins arena is 1 slot;
    }
