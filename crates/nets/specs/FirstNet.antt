-- What the private functions that make a first net do: a net holds the values of a form, and each step with a vertex of the frame fixes one of the form's points.
use Rattle.std.specs.Prelude.{ℕ, zero, suc, ◌+◌, ◌*◌, ◌-◌, ◌/◌, ◌%◌, ◌^◌, ◌≤◌, ◌<◌, ◌≡◌, List, [], ◌∷◌, ◌++◌, ℤ, pos, nat_abs, length, get_or, take, drop, replicate}
use Rattle.polar.specs.Sigma.{Point}
use Rattle.polar.specs.Order.{total, counts, monomials}
use Rattle.polar.specs.Scale.{scale}
use Rattle.entries.specs.Frame.{entry_points, units, vertex_at}
use Rattle.entries.specs.Form.{Form}
use Rattle.entries.specs.Rows.{entry_at, listed, size}
use Rattle.kinds.specs.Kinds.{later_dimension}
use Rattle.kinds.specs.declared.Head.{Head}
use Rattle.kinds.specs.Frames.{frame_of}
use Rattle.kinds.specs.Scales.{scale_row, at_degree}
use Rattle.nets.specs.Rows.{Sized, Bounded, written, place_at}
use Rattle.nets.specs.Coordinates.{row_polar, NoneBeyond, Limited}
use Rattle.nets.specs.Parts.{part_at, in_parts}

-- a list has room for a net of degree m
abbrev pub Room : ℕ → ℕ → ℕ → List ℤ → Type 0
Room w n m xs = size w n m ≤ length xs

-- every number of a net of degree m is so small that m steps with the frame's vertices fit 64 bits
pub record Small (w n m : ℕ) (xs : List ℤ) : Type 0 where
  pub bound : ℕ
  pub each : (i : ℕ) → i < size w n m → nat_abs (get_or xs i (pos 0)) ≤ bound
  pub fits : (4 * suc n) ^ m * bound < 2 ^ 63

-- the frame's numbers are there, and each is within 4
pub record FrameWithin (n : ℕ) (frame : List ℤ) : Type 0 where
  pub long : suc n * suc n ≤ length frame
  pub each : (i : ℕ) → i < suc n * suc n → nat_abs (get_or frame i (pos 0)) ≤ 4

-- vertex v of the frame
abbrev pub vertex_of : ℕ → List ℤ → ℕ → Point
vertex_of n frame v = vertex_at (frame_of (suc n) frame) v

-- vertex v of the frame as weights over the frame of the coordinates, Z first; a curve has one coordinate besides
abbrev pub vertex_weights : ℕ → List ℤ → ℕ → List ℤ
vertex_weights zero frame v = []
vertex_weights (suc zero) frame v = get_or frame (2 * v + 1) (pos 0) ∷ get_or frame (2 * v) (pos 0) ∷ pos 0 ∷ pos 0 ∷ []
vertex_weights (suc (suc n)) frame v = get_or frame (3 * v + 2) (pos 0) ∷ get_or frame (3 * v) (pos 0) ∷ get_or frame (3 * v + 1) (pos 0) ∷ pos 0 ∷ []

-- a value for each number of a row and list of points
abbrev pub Values : Type 0
Values = ℕ → List Point → ℤ

-- the entries of a net of degree m are the values of the form G over the frame of the coordinates
pub record Holds (w n m : ℕ) (G : Values) (xs : List ℤ) : Type 0 where
  pub form : (c : ℕ) → Form (suc n) (G c)
  pub entries : (c : ℕ) (e : List ℕ) → c < w → length e ≡ suc n → total e ≡ m → entry_at w n m xs c e ≡ G c (entry_points (units n) e)

-- the number at place i of the net of degree m with the values of G over the frame
abbrev pub value_at : ℕ → ℕ → ℕ → List ℤ → Values → ℕ → ℤ
value_at w n m frame G i = G (i % w) (entry_points (vertex_of n frame) (get_or (counts n m) (i / w) []))

-- what the steps ask for: places for a net of degree m, a frame, and a net that is small
pub record Stepping (w n m : ℕ) (frame xs : List ℤ) : Type 0 where
  pub sized : Sized w n m
  pub long : size w n m ≤ length xs
  pub corners : FrameWithin n frame
  pub small : Small w n m xs

-- what one step with vertex v asks for: the numbers are so small that it fits 64 bits
pub record VertexStep (w n m v : ℕ) (frame xs : List ℤ) : Type 0 where
  pub sized : Sized w n m
  pub some : 1 ≤ m
  pub vertex : v ≤ n
  pub long : size w n m ≤ length xs
  pub corners : FrameWithin n frame
  pub bounded : Bounded xs 0 (size w n m) (4 * suc n)

-- ---- what is put, out being the places before and after those afterwards, for every form G whose values the net cur holds

-- the entry with i copies of the vertices after the first, k of them of the third; cur has degree i - k, the points of the entry besides the second vertex being fixed
abbrev pub EntryPut : ℕ → ℕ → ℕ → ℕ → List ℤ → List ℤ → List ℤ → List ℤ → Type 0
EntryPut w n i k frame cur out after =
    (G : Values) → Holds w n (i - k) G cur → after ≡ written out (w * place_at n i k) w (λ j. G (j % w) (replicate (i - k) (vertex_of n frame 1)))

-- the entries with i copies of the vertices after the first; cur has degree i, the copies of the first vertex being fixed
abbrev pub RowPut : ℕ → ℕ → ℕ → List ℤ → List ℤ → List ℤ → List ℤ → Type 0
RowPut w n i frame cur out after =
    (G : Values) → Holds w n i G cur → after ≡ written out (w * place_at n i 0) (w * suc ((n - 1) * i)) (value_at w n i frame G)

-- all entries of degree m
abbrev pub NetPut : ℕ → ℕ → ℕ → List ℤ → List ℤ → List ℤ → List ℤ → Type 0
NetPut w n m frame cur out after = (G : Values) → Holds w n m G cur → after ≡ written out 0 (size w n m) (value_at w n m frame G)

-- ---- from coefficients to the net over a frame

-- the numbers of the net over the frame, of the polynomials with these coefficients
unfoldable pub framed : ℕ → ℕ → ℕ → List ℤ → List ℤ → List ℤ
framed w n m frame coefficients = listed w n m (λ c e. row_polar w n m coefficients c (entry_points (vertex_of n frame) e))

-- the same put at the front of a list
abbrev pub framed_list : ℕ → ℕ → ℕ → List ℤ → List ℤ → List ℤ → List ℤ
framed_list w n m frame coefficients out = framed w n m frame coefficients ++ drop (size w n m) out

-- what the making asks for: coefficients up to a bound so small that all steps with the frame's vertices fit 64 bits
pub record Framing (w n m : ℕ) (frame coefficients : List ℤ) : Type 0 where
  pub limited : Limited w n m coefficients
  pub read : at_degree (scale_row n) m ≡ scale n m
  pub corners : FrameWithin n frame
  pub bound : ℕ
  pub each : NoneBeyond bound (w * length (monomials n m)) coefficients
  pub fits : (4 * suc n) ^ m * (scale n m * bound) < 2 ^ 63

-- rooms with places for the rows
pub record Spare (w n m : ℕ) (work cur base : List ℤ) : Type 0 where
  pub work-room : Room w n m work
  pub cur-room : Room w n m cur
  pub base-room : Room w n m base

-- the same of each of k parts: of each that is asked which is asked of one
pub record PartsFramed (n m k : ℕ) (frame xs : List ℤ) : Type 0 where
  pub sized : Sized 4 n m
  pub room : size 4 n m * k ≤ 180
  pub long : size 4 n m * k ≤ length xs
  pub part : (j : ℕ) → j < k → Framing 4 n m frame (part_at (size 4 n m) xs j)

-- what the making of the second group asks for, p and q being the degrees, and what it leaves; where there is no second group there is nothing to do
pub record LaterFraming (head : Head) (frame out work cur base : List ℤ) : Type 0 where
  pub nine : length frame ≡ 9
  pub parts : (later_dimension head.kind ≡ 0 → ⊥) → PartsFramed (later_dimension head.kind) head.second (head.degree + 1) (take 5 (drop 4 frame)) out
  pub spare : (later_dimension head.kind ≡ 0 → ⊥) → Spare 4 (later_dimension head.kind) head.second work cur base

pub record LaterFramed (head : Head) (frame out after : List ℤ) : Type 0 where
  pub none : later_dimension head.kind ≡ 0 → after ≡ out
  pub some : (later_dimension head.kind ≡ 0 → ⊥) → after ≡ in_parts (framed 4 (later_dimension head.kind) head.second (take 5 (drop 4 frame))) (size 4 (later_dimension head.kind) head.second) (head.degree + 1) out
