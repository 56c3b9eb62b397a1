-- What several reads take of the bytes that a reader has left, and several writes bring to those that a writer
-- holds, where these are known.
use Rattle.std.proofs.Common.{arith, ℕ, ◌+◌, ◌-◌, ◌≤◌, ◌≡◌, refl, sym, ap, subst, ◌∙◌, List, ◌++◌, append_assoc, length, take, drop, length-append, length-drop, Option, None, Some, IfSome}
use Rattle.std.proofs.Math.Seq.{take-add, take_all, take-append_seam, length-take-le}
use Rattle.std.specs.Io.KnownBytes.{Consumes, Appends, IsAtEnd}
use Rattle.std.specs.Option.{unwrap_or}
use Rattle.netprint.specs.Process.{Moved, gave_bytes, ReadOf}
use Rattle.netprint.specs.declared.Stop.{Stop}

-- two reads one after the other
consumes-both : (old mid new : Option (List ℕ)) (a b : List ℕ) → Consumes old mid a → Consumes mid new b → Consumes old new (a ++ b)
consumes-both None mid new a b p q = tt
consumes-both (Some xs) None new a b p q = absurd p
consumes-both (Some xs) (Some ys) None a b p q = absurd q
consumes-both (Some xs) (Some ys) (Some zs) a b p q = p ∙ ap (λ r. a ++ r) q ∙ sym (append_assoc a b zs)

-- how many bytes a read gave, 0 where it failed; and they are within the places that it was lent
pub gave-some : (got : Option ℕ) → unwrap_or got 0 ≡ gave_bytes got
gave-some None = refl
gave-some (Some n) = refl

pub moved-within : {m n d k : ℕ} (got : Option ℕ) → k ≡ gave_bytes got → d ≤ m → n ≡ m → Moved (m - d) got → d + k ≤ n
moved-within None is low same moved = omega (arith, is, low, same)
moved-within (Some k) is low same moved = omega (arith, is, low, same, moved)

-- a read that gave k bytes, behind the first d, which it leaves as they were
pub consumes-more : (old mid new : Option (List ℕ)) (before after : List ℕ) (d k : ℕ) (got : Option ℕ) → k ≡ gave_bytes got
    → take d after ≡ take d before → Consumes old mid (take d before)
    → Consumes mid new (take (gave_bytes got) (drop d after)) → Consumes old new (take (d + k) after)
consumes-more old mid new before after d k got is kept p q =
    let r = subst (λ n. Consumes mid new (take n (drop d after))) (sym is) q in
    subst (Consumes old new) (sym (take-add d k after))
    (consumes-both old mid new (take d after) (take k (drop d after)) (subst (Consumes old mid) (sym kept) p) r)

-- what was read is of all the bytes that the reader had
pub read-of : (old new : Option (List ℕ)) (stop : Stop) (input : List ℕ) → stop.bytes ≤ length input
    → Consumes old new (take stop.bytes input) → (stop.last ≡ Some 0 → IsAtEnd new)
    → IfSome old (λ whole. ReadOf stop input whole)
read-of None new stop input within p ended = tt
read-of (Some xs) None stop input within p ended = absurd p
read-of (Some xs) (Some ys) stop input within p ended =
    let long = length-take-le stop.bytes input within in
    let front = subst (λ n. take n (take stop.bytes input ++ ys) ≡ take stop.bytes input) long (take-append_seam (take stop.bytes input) ys) in
    record {
      first = sym (ap (take stop.bytes) p ∙ front);
      ended = λ z. omega (arith, ap length p, length-append (take stop.bytes input) ys, long, ap length (ended z));
    }

-- two writes one after the other
appends-both : (old mid new : Option (List ℕ)) (a b : List ℕ) → Appends old mid a → Appends mid new b → Appends old new (a ++ b)
appends-both None mid new a b p q = tt
appends-both (Some xs) None new a b p q = absurd p
appends-both (Some xs) (Some ys) None a b p q = absurd q
appends-both (Some xs) (Some ys) (Some zs) a b p q = q ∙ ap (λ r. r ++ b) p ∙ append_assoc xs a b

-- a write of the n bytes behind the first d, out of all that are left
pub appends-more : (old mid new : Option (List ℕ)) (bs : List ℕ) (d n : ℕ) → Appends old mid (take d bs)
    → Appends mid new (take n (take (length bs - d) (drop d bs))) → Appends old new (take (d + n) bs)
appends-more old mid new bs d n p q =
    let rest : take (length bs - d) (drop d bs) ≡ drop d bs = take_all (length bs - d) (drop d bs) (omega (arith, length-drop d bs)) in
    subst (Appends old new) (sym (take-add d n bs))
    (appends-both old mid new (take d bs) (take n (drop d bs)) p (subst (λ r. Appends mid new (take n r)) rest q))
