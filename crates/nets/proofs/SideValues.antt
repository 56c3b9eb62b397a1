-- A vertex replaced in place, level by level, on plain numbers. After h levels the entry with counts e holds the polar value with as many copies of q as it has of the vertex,
-- but at most h. One level more reads entries that have one copy of the vertex less or are the entry itself, and all of them have h copies of q: their blend has 1 + h.
use Prim.Native.Nat.{ℕ, zero, suc, pred, min, ◌+◌, ◌*◌, ◌-◌, ◌≤◌, ◌<◌, zero-le, suc-le-suc}
use native.Mathlib.Nat.{not-suc-le-zero, le_of_suc-le-suc, le_refl, sub-zero}
use native.Mathlib.Numerals.{add-one}
use native.Mathlib.Omega.{arith}
use native.Mathlib.Decide.{dec_lt}
use mathlib.Core.Path.{◌≡◌, refl, sym, ap, ◌∙◌, subst}
use mathlib.Core.Bool.{Bool, true, false, cond}
use mathlib.Core.List.{List, [], ◌∷◌}
use borrow.Author.Tests.{lt-ltb, le-ltb}
use lib.IntN.{ℤ, pos, ◌*ℤ◌}
use lib.ListN.{length, get_or, set, take, length-set}
use lib.Seq.{get_or-set_same, set-set, set-get_or}
use Rattle.integers.specs.Sum.{upto}
use Rattle.integers.specs.Test.{all}
use Rattle.integers.proofs.Sums.{sum-upto-cong, upto-below, below-upto}
use Rattle.integers.proofs.All.{clash, all-passes, all-at, one-fails}
use Rattle.polar.specs.Order.{total, counts}
use Rattle.polar.proofs.Order.{counts-total}
use Rattle.entries.specs.Entries.{raise, fixed}
use Rattle.entries.specs.Rows.{entry_at, size, rank, replaced}
use Rattle.entries.proofs.Form.{total-raise, length-raise}
use Rattle.entries.proofs.Groups.{total-set}
use Rattle.entries.proofs.Places.{member-counts}
use Rattle.entries.proofs.Listed.{net-ext, entry-rank}
use Rattle.projection.specs.Projection.{in_range}
use Rattle.machine.specs.Calls.{weight_list}
use Rattle.machine.specs.declared.Weights.{Weights}
use Rattle.nets.specs.Rows.{KeptFrom, Bounded, level, weight_sum}
use Rattle.nets.specs.Levels.{values_of, named_at, all_named_at, replaced_list, Descends, Descended, ReplacedInPlace}
use Rattle.nets.specs.Sides.{Stands, stepped_at, Levelled}
use Rattle.nets.proofs.Ranks.{size_mono}
use Rattle.nets.proofs.LevelValues.{range-bounded, range-entries, level-named, level-made, blended-past, named-first, named-next, named-fails}

-- ---- counts

-- x copies of vertex v in place of those there are
total-changed : (e : List ℕ) (v x : ℕ) → v < length e → get_or e v 0 + total (set e v x) ≡ x + total e
total-changed e v x h = omega (arith, total-set e v, total-set (set e v x) v, get_or-set_same e v x 0 h, ap total (set-set e v x 0))

-- one copy of u in place of one of v, and then h of v less: that is one copy of u in place of 1 + h of v
raised-lowered : (u v : ℕ) (e : List ℕ) (h : ℕ) → u < length e → v < length e → h < get_or e v 0
    → set (raise u (set e v (pred (get_or e v 0)))) v (get_or (raise u (set e v (pred (get_or e v 0)))) v 0 - h) ≡ raise u (set e v (get_or e v 0 - suc h))
raised-lowered u v [] h a b k = absurd (not-suc-le-zero a)
raised-lowered zero zero (n ∷ e) h a b k = ap (λ x. x ∷ e) (omega arith)
raised-lowered zero (suc v) (n ∷ e) h a b k =
    let less : pred (get_or e v 0) - h ≡ get_or e v 0 - suc h = omega arith in
    ap (λ l. suc n ∷ l)
    (set-set e v (pred (get_or e v 0)) (get_or (set e v (pred (get_or e v 0))) v 0 - h)
    ∙ ap (λ x. set e v x) (ap (λ x. x - h) (get_or-set_same e v (pred (get_or e v 0)) 0 (le_of_suc-le-suc b)) ∙ less))
raised-lowered (suc u) zero (n ∷ e) h a b k = let less : pred n - h ≡ n - suc h = omega arith in ap (λ x. x ∷ raise u e) less
raised-lowered (suc u) (suc v) (n ∷ e) h a b k = ap (λ l. n ∷ l) (raised-lowered u v e h (le_of_suc-le-suc a) (le_of_suc-le-suc b) k)

-- h copies of v are left
raised-most : (u v : ℕ) (e : List ℕ) (h : ℕ) → u < length e → v < length e → h < get_or e v 0 → h ≤ get_or (raise u (set e v (pred (get_or e v 0)))) v 0
raised-most u v [] h a b k = absurd (not-suc-le-zero a)
raised-most zero zero (n ∷ e) h a b k = omega arith
raised-most zero (suc v) (n ∷ e) h a b k = let same = get_or-set_same e v (pred (get_or e v 0)) 0 (le_of_suc-le-suc b) in omega arith
raised-most (suc u) zero (n ∷ e) h a b k = let left : h ≤ pred n = omega arith in left
raised-most (suc u) (suc v) (n ∷ e) h a b k = raised-most u v e h (le_of_suc-le-suc a) (le_of_suc-le-suc b) k

-- ---- after h levels

-- number c of the entry with counts e
abbrev side_at : ℕ → ℕ → ℕ → ℕ → List ℤ → List ℤ → ℕ → ℕ → List ℕ → ℤ
side_at w n m v ws xs h c e = values_of w n m ws xs c (min h (get_or e v 0)) (set e v (get_or e v 0 - min h (get_or e v 0)))

pub record Side (w n m v : ℕ) (ws xs cur : List ℤ) (h : ℕ) : Type 0 where
  pub below : h ≤ m
  pub each : (c : ℕ) (e : List ℕ) → Stands w n m c e → entry_at w n m cur c e ≡ side_at w n m v ws xs h c e
  pub past : KeptFrom (size w n m) xs cur
  pub long : length cur ≡ length xs
  pub named : all (named_at w n m ws xs) (upto (suc h)) ≡ true

module _ (w n m v : ℕ) (weights : Weights) (xs : List ℤ) (start : Descends w n m weights xs) (vertex : v < suc n) where
  abbrev ws : List ℤ
  ws = weight_list weights

  abbrev some : 1 ≤ w
  some = start.sized.some

  abbrev room : size w n m ≤ length xs
  room = start.long

  -- the polar values, and whether those with h copies of q are in range
  abbrev values : ℕ → ℕ → List ℕ → ℤ
  values = values_of w n m ws xs

  abbrev named : ℕ → Bool
  named = named_at w n m ws xs

  there : (e : List ℕ) → length e ≡ suc n → v < length e
  there e l = subst (λ k. v < k) (sym l) vertex

  -- no entry has more than m copies
  copies-most : (e : List ℕ) → total e ≡ m → get_or e v 0 ≤ m
  copies-most e t = omega (arith, total-set e v)

  pub side-first : Side w n m v ws xs xs 0
  unfolding fixed level
  side-first =
      let ranged : all in_range (take (size w n (m - 0)) xs) ≡ true = subst (λ k. all in_range (take (size w n k) xs) ≡ true) (sym (sub-zero m)) start.range in
      record {
        below = zero-le;
        each = λ c e st.
            let none : min 0 (get_or e v 0) ≡ 0 = omega arith in
            sym (ap (λ k. values c k (set e v (get_or e v 0 - k))) none ∙ ap (λ x. entry_at w n m xs c (set e v x)) (sub-zero (get_or e v 0)) ∙ ap (entry_at w n m xs c) (set-get_or e v 0));
        past = λ i b. refl;
        long = refl;
        named = named-first w n some m ws xs room (sym (level-named w n some m ws xs room 0 zero-le) ∙ ranged);
      }

  module _ (cur : List ℤ) (h : ℕ) (a : Side w n m v ws xs cur h) where
    pub side-room : size w n m ≤ length cur
    side-room = subst (λ k. size w n m ≤ k) (sym a.long) room

    -- each number is a polar value that has been named so far
    pub side-range : all in_range (take (size w n m) cur) ≡ true
    side-range =
        range-entries w n some m cur side-room
        ∙ all-passes (λ e. all (λ c. in_range (entry_at w n m cur c e)) (upto w)) (counts n m)
        (λ e i.
        all-passes (λ c. in_range (entry_at w n m cur c e)) (upto w)
        (λ c k.
        let r = counts-total n m e i in
        let q = min h (get_or e v 0) in
        let most : q ≤ h = omega arith in
        let few : q ≤ get_or e v 0 = omega arith in
        let rest = set e v (get_or e v 0 - q) in
        let left : total rest ≡ m - q = omega (arith, r.1, total-changed e v (get_or e v 0 - q) (there e r.0)) in
        ap in_range (a.each c e (record { own = upto-below w c k; long = r.0; whole = r.1 }))
        ∙ all-at (λ j. in_range (values j q rest)) (upto w)
        (all-at (λ y. all (λ j. in_range (values j q y)) (upto w)) (counts n (m - q))
        (all-at named (upto (suc h)) a.named q (below-upto (suc h) q (suc-le-suc most)))
        rest (member-counts n (m - q) rest (length-set e v (get_or e v 0 - q) ∙ r.0) left))
        c k))

    -- small enough for the next level
    pub side-bounded : Bounded cur 0 (size w n m) (weight_sum weights)
    side-bounded = range-bounded cur (size w n m) (weight_sum weights) side-room side-range start.light

    -- ---- one level more

    -- a new number has one more copy of q
    stepped-value : (c : ℕ) (e : List ℕ) → Stands w n m c e → h < get_or e v 0 → stepped_at w n m ws v h cur c e ≡ values c (suc h) (set e v (get_or e v 0 - suc h))
    unfolding fixed
    stepped-value c e st more =
        ap (λ b. cond b (fixed (suc n) ws (entry_at w n m cur c) 1 lower) (entry_at w n m cur c e)) (lt-ltb h (get_or e v 0) more)
        ∙ sum-upto-cong (suc n)
        (λ u p.
        let inside : u < length e = subst (λ k. u < k) (sym st.long) p in
        let most = raised-most u v e h inside (there e st.long) more in
        let all-h : min h (get_or (raise u lower) v 0) ≡ h = omega arith in
        ap (λ z. get_or ws u (pos 0) *ℤ z)
        (a.each c (raise u lower)
        (record {
          own = st.own;
          long = length-raise u lower (subst (λ k. u < k) (sym (length-set e v (pred (get_or e v 0)))) inside) ∙ length-set e v (pred (get_or e v 0)) ∙ st.long;
          whole = omega (arith, st.whole, total-raise u lower, total-changed e v (pred (get_or e v 0)) (there e st.long));
        })
        ∙ ap (λ k. values c k (set (raise u lower) v (get_or (raise u lower) v 0 - k))) all-h
        ∙ ap (values c h) (raised-lowered u v e h inside (there e st.long) more)))
      where
        lower : List ℕ
        lower = set e v (pred (get_or e v 0))

    module _ (more : h < m) (b : Bool) (ys : List ℤ) (made : Levelled w n m ws v h cur b ys) where
      -- a new number out of range is a named value out of range
      named-short : b ≡ false → false ≡ all_named_at w n m ws xs
      named-short bad =
          let o = made.large bad in
          let e = o.entry in
          let rest = set e v (get_or e v 0 - suc h) in
          let left : total rest ≡ m - suc h = omega (arith, o.stands.whole, o.more, total-changed e v (get_or e v 0 - suc h) (there e o.stands.long)) in
          sym
          (named-fails w n some m ws xs room (suc h) more
          (one-fails (λ y. all (λ c. in_range (values c (suc h) y)) (upto w)) (counts n (m - suc h)) rest
          (member-counts n (m - suc h) rest (length-set e v (get_or e v 0 - suc h) ∙ o.stands.long) left)
          (one-fails (λ c. in_range (values c (suc h) rest)) (upto w) o.number (below-upto w o.number o.stands.own)
          (ap in_range (sym (stepped-value o.number e o.stands o.more)) ∙ o.out))))

      pub side-fails : b ≡ false → ReplacedInPlace w n m ws v xs false ys
      side-fails bad = record { named = named-short bad; last = λ ok. absurd (clash ok refl); kept = made.kept ∙ a.long }

      module _ (ok : b ≡ true) where
        -- each named value with 1 + h copies of q is a new number: that of the counts with 1 + h copies of v more
        next-named : named (suc h) ≡ true
        next-named =
            all-passes (λ e. all (λ c. in_range (values c (suc h) e)) (upto w)) (counts n (m - suc h))
            (λ e i.
            all-passes (λ c. in_range (values c (suc h) e)) (upto w)
            (λ c k.
            let r = counts-total n (m - suc h) e i in
            let full = set e v (get_or e v 0 + suc h) in
            let many : get_or full v 0 ≡ get_or e v 0 + suc h = get_or-set_same e v (get_or e v 0 + suc h) 0 (there e r.0) in
            let st : Stands w n m c full =
            record {
              own = upto-below w c k;
              long = length-set e v (get_or e v 0 + suc h) ∙ r.0;
              whole = omega (arith, r.1, more, total-changed e v (get_or e v 0 + suc h) (there e r.0));
            } in
            let back : get_or full v 0 - suc h ≡ get_or e v 0 = omega arith in
            let enough : h < get_or full v 0 = omega arith in
            ap (λ y. in_range (values c (suc h) y)) (sym (set-get_or e v 0) ∙ sym (set-set e v (get_or e v 0 + suc h) (get_or e v 0)) ∙ ap (set full v) (sym back))
            ∙ ap in_range (sym (stepped-value c full st enough))
            ∙ made.small ok c full st enough))

        next-each : (c : ℕ) (e : List ℕ) → Stands w n m c e → entry_at w n m ys c e ≡ side_at w n m v ws xs (suc h) c e
        next-each c e st = made.each ok c e st ∙ by (dec_lt h (get_or e v 0))
          where
            by : Dec (h < get_or e v 0) → stepped_at w n m ws v h cur c e ≡ side_at w n m v ws xs (suc h) c e
            by (yes p) =
                let all-next : suc h ≡ min (suc h) (get_or e v 0) = omega arith in
                stepped-value c e st p ∙ ap (λ k. values c k (set e v (get_or e v 0 - k))) all-next
            by (no p) =
                let same : min h (get_or e v 0) ≡ min (suc h) (get_or e v 0) = omega arith in
                ap (λ t. cond t (fixed (suc n) ws (entry_at w n m cur c) 1 (set e v (pred (get_or e v 0)))) (entry_at w n m cur c e)) (le-ltb h (get_or e v 0) (omega arith))
                ∙ a.each c e st
                ∙ ap (λ k. values c k (set e v (get_or e v 0 - k))) same

        pub side-next : Side w n m v ws xs ys (h + 1)
        side-next =
            subst (λ k. Side w n m v ws xs ys k) (sym (add-one h))
            (record {
              below = more;
              each = next-each;
              past = λ i p. made.past ok i p ∙ a.past i p;
              long = made.kept ∙ a.long;
              named = named-next w n some m ws xs room h a.named next-named;
            })

    -- all levels are made
    pub side-last : m ≤ h → ReplacedInPlace w n m ws v xs true cur
    unfolding all_named_at replaced_list
    side-last done =
        let all-levels : h ≡ m = omega (arith, a.below) in
        record {
          named = sym (subst (λ k. all (named_at w n m ws xs) (upto (suc k)) ≡ true) all-levels a.named);
          last = λ b.
              net-ext w n m some cur xs (λ c. replaced (suc n) ws v (entry_at w n m xs c)) a.long room
              (λ c e k l t.
              let most = copies-most e t in
              let every : min h (get_or e v 0) ≡ get_or e v 0 = omega arith in
              let none : get_or e v 0 - get_or e v 0 ≡ 0 = omega arith in
              sym (entry-rank w n m cur c e l t)
              ∙ a.each c e (record { own = k; long = l; whole = t })
              ∙ ap (λ q. values c q (set e v (get_or e v 0 - q))) every
              ∙ ap (λ x. values c (get_or e v 0) (set e v x)) none)
              a.past;
          kept = a.long;
        }

-- ---- the first vertex, whose levels are those of a point

module _ (w n m : ℕ) (some : 1 ≤ w) (ws xs : List ℤ) (room : size w n m ≤ length xs) where
  -- past the entries the levels keep what stood there
  level-past : (h : ℕ) → h ≤ m → KeptFrom (size w n m) xs (level w n m ws h xs)
  unfolding level
  level-past zero b i past = refl
  level-past (suc h) b i past =
      let less = size_mono w n (m - suc h) m (omega arith) in
      blended-past w n (m - suc h) ws (level w n m ws h xs) i (omega arith) ∙ level-past h (omega arith) i past

  pub descended-replaces : (b : Bool) (ys : List ℤ) → Descended w n m ws xs b ys → ReplacedInPlace w n m ws 0 xs b ys
  unfolding replaced_list
  descended-replaces b ys d =
      record {
        named = d.named;
        last = λ ok.
            net-ext w n m some ys xs (λ c. replaced (suc n) ws 0 (entry_at w n m xs c)) d.kept room
            (λ c e k l t. ap (λ z. get_or z (w * rank n e + c) (pos 0)) (d.last ok) ∙ level-made w n some m ws xs room c e k l t)
            (λ i past. ap (λ z. get_or z i (pos 0)) (d.last ok) ∙ level-past m (le_refl m) i past);
        kept = d.kept;
      }
