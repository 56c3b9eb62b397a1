-- Nets with a vertex flipped and replaced, one after the other, whatever is refused. What the flipped net fixes is what the net before fixes with the vertex's weight negated,
-- up to signs (entries/proofs/Flips.antt): so the size rule judges both alike, and entries, frames and largest component are the same where both ways end.
use Prim.Native.Nat.{ℕ, ◌<◌}
use mathlib.Core.Path.{◌≡◌, refl, sym, ap, ap₂, ◌∙◌}
use mathlib.Core.Logic.{◌≢◌}
use mathlib.Core.Bool.{true}
use mathlib.Core.List.{List, map, []}
use lib.IntN.{ℤ, pos}
use lib.ListN.{length, get_or, length-map}
use Rattle.integers.specs.Sum.{upto}
use Rattle.integers.specs.Largest.{largest_of}
use Rattle.integers.proofs.All.{all-cong, all_get_d}
use Rattle.integers.proofs.Sums.{upto-below}
use Rattle.polar.specs.Groups.{Group}
use Rattle.entries.specs.Frame.{points_over, put_over}
use Rattle.entries.specs.Entries.{number_count, entry_over, listed_over, signed, fixed_over, flipped_over, as_q}
use Rattle.entries.proofs.Signs.{signed-twice, signed-unseen, signed-swap}
use Rattle.entries.proofs.Groups.{Counted, Named, with_q, counted-long, named-as}
use Rattle.entries.proofs.Fixed.{fixed-over-cong}
use Rattle.entries.proofs.ListedOver.{length-listed-over, entry-listed-over, listed-over-cong, listed-again}
use Rattle.entries.proofs.Flips.{negated_at, negated_over, copies_at, fixed-flipped-over, QOfOne, SameIn, fixed-same-in, turned_same, q-of-one, copies-other, copies-same}
use Rattle.entries.proofs.FlippedFrames.{flipped_frames, put-again, put-flip, flip-flip, flip-back, points-flipped, point-same-in}
use Rattle.projection.specs.Projection.{in_range}
use Rattle.kinds.specs.Frames.{Frames}
use Rattle.machine.specs.Sizes.{named_by_replace, all_named}
use Rattle.machine.specs.Nets.{Net, net_groups, entry, net_in_range}
use Rattle.machine.proofs.Frames.{in-range-neg}
use Rattle.machine.proofs.LargestAfter.{flipped-largest}
use Rattle.machine.proofs.Names.{by-replace, one-of-q}
use Rattle.machine.proofs.Over.{listed_in}

-- ---- nets that a flip and a replace leave

-- a net with other frames, entries and largest component
abbrev pub changed : Net → Frames → List ℤ → ℤ → Net
changed net frames entries largest = record { kind = net.kind; degree = net.degree; second = net.second; frames = frames; entries = entries; largest = largest }

changed-same : (net : Net) {a b : Frames} {x y : List ℤ} {s t : ℤ} → a ≡ b → x ≡ y → s ≡ t → changed net a x s ≡ changed net b y t
changed-same net p q r = λ i. changed net (p i) (q i) (r i)

-- vertex v of group j flipped
abbrev pub flipped_net : Net → ℕ → ℕ → Net
flipped_net net j v = changed net (flipped_frames j v net.frames) (listed_over (net_groups net) (λ c es. flipped_over j v (entry net c) es)) net.largest

-- vertex u of group i replaced by what the weights name
abbrev pub everywhere : Net → List ℤ → List (List ℤ)
everywhere net ws = map (λ g. ws) (net_groups net)

abbrev pub replaced_entries : Net → ℕ → ℕ → List ℤ → List ℤ
replaced_entries net i u ws = listed_over (net_groups net) (λ c es. fixed_over (net_groups net) (everywhere net ws) (entry net c) (as_q i u es))

abbrev pub replaced_net : Net → ℕ → ℕ → List ℤ → Net
replaced_net net i u ws =
    changed net (put_over i u (get_or (points_over (net_groups net) (everywhere net ws) net.frames) i []) net.frames) (replaced_entries net i u ws)
    (pos (largest_of (replaced_entries net i u ws)))

module _ (net : Net) where
  abbrev gs : List Group
  gs = net_groups net

  flipped-entry : (j v c : ℕ) (es : List (List ℕ)) → c < 4 → Counted gs es → entry (flipped_net net j v) c es ≡ flipped_over j v (entry net c) es
  flipped-entry j v c es k counted = entry-listed-over gs (λ a x. flipped_over j v (entry net a) x) c es k counted

  -- a flip leaves entries in range
  pub flipped-in : net_in_range net ≡ true → (j v : ℕ) → net_in_range (flipped_net net j v) ≡ true
  unfolding entry_over
  flipped-in fits j v =
      listed_in gs (λ c es. flipped_over j v (entry net c) es)
      (λ c es k counted. signed-unseen in_range in-range-neg (get_or (get_or es j []) v 0) (entry net c es) ∙ all_get_d in_range net.entries _ (pos 0) fits refl)

  -- ---- two flips

  pub twice : length net.entries ≡ number_count gs → (j v : ℕ) → v < length (get_or net.frames j []) → flipped_net (flipped_net net j v) j v ≡ net
  twice whole j v below =
      changed-same net (flip-back net.frames j v below)
      (listed-over-cong gs (λ c es. flipped_over j v (entry (flipped_net net j v) c) es) (entry net)
      (λ c es k counted. ap (signed (get_or (get_or es j []) v 0)) (flipped-entry j v c es k counted) ∙ signed-twice (get_or (get_or es j []) v 0) (entry net c es))
      ∙ listed-again gs net.entries whole)
      refl

  pub either_order : (i u j v : ℕ) → (i ≡ j → u ≢ v) → flipped_net (flipped_net net i u) j v ≡ flipped_net (flipped_net net j v) i u
  either_order i u j v n =
      changed-same net (sym (flip-flip net.frames i u j v n))
      (listed-over-cong gs (λ c es. flipped_over j v (entry (flipped_net net i u) c) es) (λ c es. flipped_over i u (entry (flipped_net net j v) c) es)
      (λ c es k counted.
      let a = get_or (get_or es i []) u 0 in
      let b = get_or (get_or es j []) v 0 in
      ap (signed b) (flipped-entry i u c es k counted) ∙ signed-swap b a (entry net c es) ∙ ap (signed a) (sym (flipped-entry j v c es k counted))))
      refl

  -- ---- a flip and a replace: in v's own group the other weights have v's negated, in another group they are the same

  module _ (i j v : ℕ) (ws others : List ℤ) (here : i ≡ j → negated_at v ws ≡ others) (apart : i ≢ j → ws ≡ others) where
    same_in : SameIn gs i (negated_over j v (everywhere net ws)) (everywhere net others)
    same_in = turned_same gs i j v ws others here apart

    -- what the flipped net fixes
    fixed-turned : (c : ℕ) (es : List (List ℕ)) → c < 4 → Named gs es → QOfOne gs i es
        → fixed_over gs (everywhere net ws) (entry (flipped_net net j v) c) es ≡ signed (copies_at j v es) (fixed_over gs (everywhere net others) (entry net c) es)
    fixed-turned c es k named one =
        fixed-over-cong gs (everywhere net ws) (entry (flipped_net net j v) c) (flipped_over j v (entry net c)) (λ r counted. flipped-entry j v c r k counted) es named
        ∙ fixed-flipped-over gs (everywhere net ws) j v (entry net c) es (counted-long (map with_q gs) es named ∙ length-map gs with_q)
        ∙ ap (signed (copies_at j v es)) (fixed-same-in gs i (negated_over j v (everywhere net ws)) (everywhere net others) same_in (entry net c) es one)

    -- the point that is put in
    pub point-turned : v < length (get_or net.frames j [])
        → get_or (points_over gs (everywhere net ws) (flipped_frames j v net.frames)) i [] ≡ get_or (points_over gs (everywhere net others) net.frames) i []
    point-turned below =
        ap (λ qs. get_or qs i []) (points-flipped gs (everywhere net ws) j v net.frames below)
        ∙ point-same-in gs i (negated_over j v (everywhere net ws)) (everywhere net others) same_in net.frames

    -- the size rule
    pub sizes-turned : all_named (named_by_replace gs i) (λ c es. fixed_over gs (everywhere net ws) (entry (flipped_net net j v) c) es)
        ≡ all_named (named_by_replace gs i) (λ c es. fixed_over gs (everywhere net others) (entry net c) es)
    unfolding all_named
    sizes-turned =
        all-cong _ _ (named_by_replace gs i)
        (λ es m.
        all-cong _ _ (upto 4)
        (λ c k.
        ap in_range (fixed-turned c es (upto-below 4 c k) (by-replace gs i es m) (one-of-q gs i es m))
        ∙ signed-unseen in_range in-range-neg (copies_at j v es) (fixed_over gs (everywhere net others) (entry net c) es)))

    -- another vertex replaced
    pub replaced-other : (u : ℕ) → (i ≡ j → u ≢ v) → v < length (get_or net.frames j []) → replaced_net (flipped_net net j v) i u ws ≡ flipped_net (replaced_net net i u others) j v
    replaced-other u n below =
        changed-same net
        (ap (λ q. put_over i u q (flipped_frames j v net.frames)) (point-turned below)
        ∙ put-flip net.frames i u j v (get_or (points_over gs (everywhere net others) net.frames) i []) n)
        entries-are
        (ap (λ l. pos (largest_of l)) entries-are ∙ ap pos (sym (flipped-largest gs (replaced_entries net i u others) j v (length-listed-over gs _))))
      where
        entries-are : replaced_entries (flipped_net net j v) i u ws ≡ (flipped_net (replaced_net net i u others) j v).entries
        entries-are =
            listed-over-cong gs _ _
            (λ c es k counted.
            fixed-turned c (as_q i u es) k (named-as gs i u es counted) (q-of-one gs i u es)
            ∙ ap₂ signed (copies-other i u j v es n) (sym (entry-listed-over gs (λ a x. fixed_over gs (everywhere net others) (entry net a) (as_q i u x)) c es k counted)))

  -- the flipped vertex itself replaced
  pub replaced-itself : (j v : ℕ) (ws : List ℤ) → v < length (get_or net.frames j []) → replaced_net (flipped_net net j v) j v ws ≡ replaced_net net j v (negated_at v ws)
  replaced-itself j v ws below =
      changed-same net
      (ap (λ q. put_over j v q (flipped_frames j v net.frames)) (point-turned j j v ws (negated_at v ws) (λ p. refl) (λ n. absurd (n refl)) below)
      ∙ put-again net.frames j v _ (get_or (points_over gs (everywhere net (negated_at v ws)) net.frames) j []))
      entries-are (ap (λ l. pos (largest_of l)) entries-are)
    where
      entries-are : replaced_entries (flipped_net net j v) j v ws ≡ replaced_entries net j v (negated_at v ws)
      entries-are =
          listed-over-cong gs _ _
          (λ c es k counted.
          fixed-turned j j v ws (negated_at v ws) (λ p. refl) (λ n. absurd (n refl)) c (as_q j v es) k (named-as gs j v es counted) (q-of-one gs j v es)
          ∙ ap (λ n. signed n (fixed_over gs (everywhere net (negated_at v ws)) (entry net c) (as_q j v es))) (copies-same j v es))
