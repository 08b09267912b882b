-- A node goes out of the middle of a tree, and the rest stays joined and in order.
use Rattle.std.proofs.Common.{◌≡◌, ◌≢◌, ℕ, ◌+◌, ◌<◌, ◌≤◌, Bool, Option, Some, cond, refl, sym, ap, subst, ◌∙◌, inl, inr, arith}
use Rattle.std.specs.Prelude.{◌==◌}
use Rattle.link_arena.specs.declared.arena.Links.{Links}
use Rattle.pairing_heap.specs.Tree.{Tree, leaf, node, tally, slot_count, Joined, Ordered}
use Rattle.pairing_heap.specs.Melding.{first_of, children_of, without}
use Rattle.pairing_heap.specs.Chain.{IsRoot, Unhooks}
use Rattle.pairing_heap.proofs.Counts.{one_other, slot_count-root, apart}
use Rattle.pairing_heap.proofs.Size.{none_or_some}
use Rattle.pairing_heap.proofs.Frame.{Kept, Joined-kept, Joined-rehung}
use Rattle.pairing_heap.proofs.Melding.{head_in}
use Rattle.pairing_heap.proofs.Cutting.{without-here, children-here, without-other, children-other, without-absent, children-absent, first_of-alone, names_or_not, open_at, pred_in, next_in}

module _ {X : Type 0} (precedes : X → X → Bool) (keys : ℕ → Option X) (links later : ℕ → Links) (slot pred : ℕ) (unhooks : Unhooks links later slot pred) (prev_is : (links slot).prev ≡ Some pred) where
  -- the tree without the slot and what is below it
  pub record Cut (prev at : Option ℕ) (top : X) (tree : Tree X) : Type 0 where
    pub key : X
    pub below : Tree X
    pub rest : Tree X
    pub gone : without slot tree ≡ rest
    pub children : children_of slot tree ≡ below
    pub rooted : IsRoot precedes keys links slot key below
    pub joined : Joined keys later prev at rest
    pub nodes : (test : X × ℕ → Bool) → tally test tree ≡ (cond (test (key, slot)) 1 0 + tally test below) + tally test rest
    pub ordered : Ordered precedes top rest
    pub below_kept : Kept keys keys links later below

  -- a tree without what comes before the slot and after it stays
  untouched : (tree : Tree X) → slot_count pred tree ≡ 0 → ((after : ℕ) → (links slot).next ≡ Some after → slot_count after tree ≡ 0) → Kept keys keys links later tree
  untouched tree no_pred no_after =
      record {
        keys_stay = λ other some. refl;
        links_stay = λ other some. unhooks.elsewhere other (apart tree pred other no_pred some) (λ is. omega (arith, some, no_after other is));
      }

  pred_here : (here : ℕ) → (links slot).prev ≡ Some here → pred ≡ here
  pred_here here is = let e = sym prev_is ∙ is in cc

  -- the slot is the first of the tree, and what comes after it takes its place
  cut_first : (here : ℕ) (top : X) (to now : Option ℕ) (tree : Tree X) → ((other : ℕ) → slot_count other tree ≤ 1) → slot_count here tree ≡ 0 → Joined keys links (Some here) to tree → Ordered precedes top tree → to ≡ Some slot → now ≡ (links slot).next → Cut (Some here) now top tree
  cut_first here top to now tree once absent joined ordered is now_is =
      let opened = open_at precedes keys links (Some here) to slot top tree is joined ordered in
      let same = pred_here here opened.before in
      let rehung = Joined-rehung keys keys links later (Some slot) (Some here) (links slot).next opened.rest
      (λ other. omega (arith, once other, opened.nodes (λ pair. pair.1 == other)))
      (λ other some. refl)
      (λ other next. unhooks.beside other next ∙ ap (λ (p : ℕ). record { child = (links other).child; next = (links other).next; prev = Some p }) same)
      (λ other some not_first. unhooks.elsewhere other (λ equal. omega (arith, absent, some, opened.nodes (λ pair. pair.1 == here), ap (λ s. slot_count s opened.rest) (equal ∙ same))) not_first)
      opened.beside in
      record {
        key = opened.key;
        below = opened.children;
        rest = opened.rest;
        gone = ap (without slot) opened.is ∙ without-here opened.key slot opened.children opened.rest;
        children = ap (children_of slot) opened.is ∙ children-here opened.key slot opened.children opened.rest;
        rooted = opened.rooted;
        joined = subst (λ (at : Option ℕ). Joined keys later (Some here) at opened.rest) (sym now_is) rehung;
        nodes = λ test. omega (arith, opened.nodes test);
        ordered = opened.ordered;
        below_kept = untouched opened.children
            (omega (arith, absent, opened.nodes (λ pair. pair.1 == here), ap (λ s. slot_count s opened.children) same))
            (λ after next. omega (arith, once after, opened.nodes (λ pair. pair.1 == after), head_in keys links (Some slot) (links slot).next opened.rest after opened.beside next));
      }

  -- the slot is among the children
  in_children : (prev at : Option ℕ) (top key : X) (here : ℕ) (children rest : Tree X) → at ≡ Some here → keys here ≡ Some key → (later here).prev ≡ prev → Joined keys later (Some here) (later here).next rest → Ordered precedes top (node key here children rest) → here ≢ slot → slot_count slot rest ≡ 0 → Cut (Some here) (later here).child key children → Cut prev at top (node key here children rest)
  in_children prev at top key here children rest is keyed before beside ordered differs none cut =
      record {
        key = cut.key;
        below = cut.below;
        rest = node key here cut.rest rest;
        gone = without-other key here slot children rest differs
            ∙ ap (λ t. node key here t (without slot rest)) cut.gone
            ∙ ap (λ t. node key here cut.rest t) (without-absent slot rest none);
        children = children-other key here slot children rest differs
            ∙ ap (λ t. first_of (children_of slot children) t) (children-absent slot rest none)
            ∙ first_of-alone (children_of slot children) ∙ cut.children;
        rooted = cut.rooted;
        joined = (is, keyed, before, cut.joined, beside);
        nodes = λ test. omega (arith, cut.nodes test);
        ordered = (ordered.0, cut.ordered, ordered.2);
        below_kept = cut.below_kept;
      }

  -- the slot is among the siblings after it
  in_rest : (prev at : Option ℕ) (top key : X) (here : ℕ) (children rest : Tree X) → at ≡ Some here → keys here ≡ Some key → (later here).prev ≡ prev → Joined keys later (Some here) (later here).child children → Ordered precedes top (node key here children rest) → here ≢ slot → slot_count slot children ≡ 0 → Cut (Some here) (later here).next top rest → Cut prev at top (node key here children rest)
  in_rest prev at top key here children rest is keyed before below ordered differs none cut =
      record {
        key = cut.key;
        below = cut.below;
        rest = node key here children cut.rest;
        gone = without-other key here slot children rest differs
            ∙ ap (λ t. node key here t (without slot rest)) (without-absent slot children none)
            ∙ ap (λ t. node key here children t) cut.gone;
        children = children-other key here slot children rest differs
            ∙ ap (λ t. first_of t (children_of slot rest)) (children-absent slot children none)
            ∙ cut.children;
        rooted = cut.rooted;
        joined = (is, keyed, before, below, cut.joined);
        nodes = λ test. omega (arith, cut.nodes test);
        ordered = (ordered.0, ordered.1, cut.ordered);
        below_kept = cut.below_kept;
      }

  kept_child : (prev to now : Option ℕ) (tree : Tree X) → now ≡ to → Kept keys keys links later tree → Joined keys links prev to tree → Joined keys later prev now tree
  kept_child prev to now tree same kept joined =
      subst (λ (at : Option ℕ). Joined keys later prev at tree) (sym same) (Joined-kept keys keys links later prev to tree kept joined)

  -- the root of the slot's tree is written where the slot is its first child, and not where it is further down
  written_child : (here : ℕ) → pred ≡ here → (links here).child ≡ Some slot → later here ≡ record { child = (links slot).next; next = (links here).next; prev = (links here).prev }
  written_child here same is =
      subst (λ (h : ℕ). (links h).child ≡ Some slot → later h ≡ record { child = (links slot).next; next = (links h).next; prev = (links h).prev }) same unhooks.child is

  written_next : (here : ℕ) → pred ≡ here → (links here).child ≢ Some slot → later here ≡ record { child = (links here).child; next = (links slot).next; prev = (links here).prev }
  written_next here same not =
      subst (λ (h : ℕ). (links h).child ≢ Some slot → later h ≡ record { child = (links h).child; next = (links slot).next; prev = (links h).prev }) same unhooks.next not

  -- the children without the slot, and the root and its siblings as they were but for its first child
  pub record CutBelow (here : ℕ) (key : X) (children rest : Tree X) : Type 0 where
    pub cut : Cut (Some here) (later here).child key children
    pub next : (later here).next ≡ (links here).next
    pub prev : (later here).prev ≡ (links here).prev
    pub kept : Kept keys keys links later rest

  -- the slot stands below a root
  pub cut_below : (prev at : Option ℕ) (key : X) (here : ℕ) (children rest : Tree X) → ((other : ℕ) → slot_count other (node key here children rest) ≤ 1) → 0 < slot_count slot children → Joined keys links prev at (node key here children rest) → Ordered precedes key children → ((links here).child ≢ Some slot → Cut (Some here) (links here).child key children) → CutBelow here key children rest
  cut_below prev at key here children rest once some joined ordered deeper =
      let root = slot_count-root key here children rest in
      let no_here : slot_count here children ≡ 0 = omega (arith, once here, root) in
      let after_here : (after : ℕ) → (links slot).next ≡ Some after → 0 < slot_count after children =
      λ after is. next_in precedes keys links (Some here) (links here).child slot after children joined.3 some is in
      let no_after : (after : ℕ) → (links slot).next ≡ Some after → slot_count after rest ≡ 0 =
      λ after is. omega (arith, once after, after_here after is) in
      elim (names_or_not (links here).child slot) [
        | inl is ↦
            let opened = open_at precedes keys links (Some here) (links here).child slot key children is joined.3 ordered in
            let same = pred_here here opened.before in
            let write = written_child here same is in
            let kept = untouched rest (omega (arith, once here, root, ap (λ s. slot_count s rest) same)) no_after in
            let cut = cut_first here key (links here).child (later here).child children (λ other. omega (arith, once other)) no_here joined.3 ordered is (ap (λ l. l.child) write) in
            record { cut = cut; next = ap (λ l. l.next) write; prev = ap (λ l. l.prev) write; kept = kept }
        | inr not ↦
            let found = pred_in precedes keys links (Some here) (links here).child slot children (λ other. omega (arith, once other)) joined.3 some not in
            let same = pred_here found.0 found.1 in
            let deep : 0 < slot_count pred children = omega (arith, found.2, ap (λ s. slot_count s children) same) in
            let stays = unhooks.elsewhere here (λ equal. omega (arith, deep, no_here, ap (λ s. slot_count s children) equal)) (λ next. omega (arith, no_here, after_here here next)) in
            let kept = untouched rest (omega (arith, once pred, deep)) no_after in
            let cut = deeper not in
            let moved = subst (λ (to : Option ℕ). Cut (Some here) to key children) (ap (λ l. l.child) (sym stays)) cut in
            record { cut = moved; next = ap (λ l. l.next) stays; prev = ap (λ l. l.prev) stays; kept = kept }
      ]

  -- the slot stands after a node, or below one that comes after
  cut_beside : (prev at : Option ℕ) (top key : X) (here : ℕ) (children rest : Tree X) → ((other : ℕ) → slot_count other (node key here children rest) ≤ 1) → 0 < slot_count slot rest → Joined keys links prev at (node key here children rest) → Ordered precedes top (node key here children rest) → ((links here).next ≢ Some slot → Cut (Some here) (links here).next top rest) → Cut prev at top (node key here children rest)
  cut_beside prev at top key here children rest once some joined ordered deeper =
      let root = slot_count-root key here children rest in
      let no_here : slot_count here rest ≡ 0 = omega (arith, once here, root) in
      let no_slot : slot_count slot children ≡ 0 = omega (arith, once slot) in
      let differs : here ≢ slot = λ same. omega (arith, no_here, some, ap (λ s. slot_count s rest) same) in
      let after_here : (after : ℕ) → (links slot).next ≡ Some after → 0 < slot_count after rest =
      λ after is. next_in precedes keys links (Some here) (links here).next slot after rest joined.4 some is in
      let no_after : (after : ℕ) → (links slot).next ≡ Some after → slot_count after children ≡ 0 =
      λ after is. omega (arith, once after, after_here after is) in
      elim (names_or_not (links here).next slot) [
        | inl is ↦
            let opened = open_at precedes keys links (Some here) (links here).next slot top rest is joined.4 ordered.2 in
            let same = pred_here here opened.before in
            let write = written_next here same (λ first. omega (arith, no_slot, head_in keys links (Some here) (links here).child children slot joined.3 first)) in
            let kept = untouched children (omega (arith, once here, root, ap (λ s. slot_count s children) same)) no_after in
            let cut = cut_first here top (links here).next (later here).next rest (λ other. omega (arith, once other)) no_here joined.4 ordered.2 is (ap (λ l. l.next) write) in
            in_rest prev at top key here children rest joined.0 joined.1 (ap (λ l. l.prev) write ∙ joined.2) (kept_child (Some here) (links here).child (later here).child children (ap (λ l. l.child) write) kept joined.3) ordered differs no_slot cut
        | inr not ↦
            let found = pred_in precedes keys links (Some here) (links here).next slot rest (λ other. omega (arith, once other)) joined.4 some not in
            let same = pred_here found.0 found.1 in
            let deep : 0 < slot_count pred rest = omega (arith, found.2, ap (λ s. slot_count s rest) same) in
            let stays = unhooks.elsewhere here (λ equal. omega (arith, deep, no_here, ap (λ s. slot_count s rest) equal)) (λ next. omega (arith, no_here, after_here here next)) in
            let kept = untouched children (omega (arith, once pred, deep)) no_after in
            let cut = deeper not in
            let moved = subst (λ (to : Option ℕ). Cut (Some here) to top rest) (ap (λ l. l.next) (sym stays)) cut in
            in_rest prev at top key here children rest joined.0 joined.1 (ap (λ l. l.prev) stays ∙ joined.2) (kept_child (Some here) (links here).child (later here).child children (ap (λ l. l.child) stays) kept joined.3) ordered differs no_slot moved
      ]

  -- a slot goes out of a tree that does not begin with it
  pub cut_in : (prev at : Option ℕ) (top : X) (tree : Tree X) → ((other : ℕ) → slot_count other tree ≤ 1) → 0 < slot_count slot tree → Joined keys links prev at tree → Ordered precedes top tree → at ≢ Some slot → Cut prev at top tree
  cut_in prev at top leaf once some joined ordered elsewhere = absurd (omega arith)
  cut_in prev at top (node key here children rest) once some joined ordered elsewhere =
      let differs : here ≢ slot = λ same. elsewhere (joined.0 ∙ ap (λ (s : ℕ). Some s) same) in
      elim (none_or_some (slot_count slot children)) [
        | inl none ↦
            let more : 0 < slot_count slot rest = omega (arith, one_other here slot differs) in
            cut_beside prev at top key here children rest once more joined ordered
            (λ not. cut_in (Some here) (links here).next top rest (λ other. omega (arith, once other)) more joined.4 ordered.2 not)
        | inr more ↦
            let below = cut_below prev at key here children rest once more joined ordered.1
            (λ not. cut_in (Some here) (links here).child key children (λ other. omega (arith, once other)) more joined.3 ordered.1 not) in
            in_children prev at top key here children rest joined.0 joined.1 (below.prev ∙ joined.2) (kept_child (Some here) (links here).next (later here).next rest below.next below.kept joined.4) ordered differs (omega (arith, once slot, more)) below.cut
      ]
