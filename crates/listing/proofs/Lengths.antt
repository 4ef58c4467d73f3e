-- The lengths of the edges, written edge by edge from their ends, and that they are the rules'. Assumes nothing.
use mathlib.Core.Path.{◌≡◌, refl, sym, ap, ap₂, ◌∙◌}
use mathlib.Core.List.{List, [], ◌∷◌, map}
use Prim.Native.Nat.{ℕ, zero, suc, ◌+◌, ◌-◌, ◌*◌, ◌/◌, ◌≤◌, ◌<◌}
use native.Mathlib.Nat.{zero-add}
use native.Mathlib.Omega.{arith}
use lib.ListN.{length, get_or, take, set, length-map}
use lib.Dec.{T}
use lib.Seq.{ext_get_or}
use lib.Ieee.{Float, nan}
use Rattle.rows.specs.Region.{OnlyOf, HoldsOf}
use Rattle.rows.proofs.Regions.{only_none, only_next, holds_none, holds_next, length_part, get_d_part, get_or_part_of}
use Rattle.rules.specs.Lists.{below, any, each}
use Rattle.rules.specs.Mesh.{faces_of, points_of, point, zero64}
use Rattle.rules.specs.Float.{norm, difference}
use Rattle.rules.specs.Steps.{Step, step, edge, same, entries, pairs, edges}
use Rattle.rules.specs.Edges as rule
use Rattle.rules.specs.Edges.{both_ends}
use Rattle.rule_laws.proofs.Lists.{get_or_map_in, length_each}
use Rattle.rule_laws.proofs.Rising.{All, all_at, all_imp, all_each, all_map, all_filter, below_all}
use Rattle.rule_laws.proofs.Flat.{length_points}
use Rattle.table.proofs.Places.{none}
use Rattle.filling.proofs.Filling.{filled_is}
use Rattle.listing.specs.Listing.{length_at, LengthsAsks, LengthsGives, ListLengthsAsks, ListLengthsGives}

-- ---- the loop

-- the first r lengths stand at the front
pub record Measured (ps : List Float) (es : List ℕ) (m : ℕ) (l₀ l : List Float) (r : ℕ) : Type 0 where
  pub at_most : r ≤ m
  pub only : OnlyOf nan 0 r l₀ l
  pub front : HoldsOf nan 0 r (length_at ps es) l

-- the bounds of a turn
pub record Turn (es : List ℕ) (m : ℕ) (l : List Float) (r : ℕ) : Type 0 where
  pub here : r < m
  pub pairs : 2 * m ≤ length es
  pub room : m ≤ length l

-- none does at first
pub begin : {ps : List Float} {es : List ℕ} {m : ℕ} {l : List Float} → LengthsAsks ps es m l → Measured ps es m l l 0
begin {ps} {es} {m} {l} q = record { at_most = omega arith; only = only_none 0 0 l; front = holds_none }

module _ {ps : List Float} {es : List ℕ} {m : ℕ} {l₀ l : List Float} {r : ℕ} (q : LengthsAsks ps es m l₀) (v : Measured ps es m l₀ l r) where
  module _ (h : r < m) where
    -- the reads and the store of a turn are in bounds
    pub turn : Turn es m l r
    turn = record { here = h; pairs = q.pairs; room = omega (arith, q.room, v.only.long) }

    -- both ends are points
    pub inside : (get_or es (2 * r + 1) 0 < length ps / 3) × (get_or es (2 * r) 0 < length ps / 3)
    inside = (q.inside (2 * r + 1) (omega arith), q.inside (2 * r) (omega arith))

    -- one length more
    pub again : (x : Float) → x ≡ length_at ps es r → Measured ps es m l₀ (set l r x) (r + 1)
    again x e = record { at_most = omega arith; only = rw (zero-add r) at (only_next x v.only); front = rw (zero-add r) at (holds_next x (omega (arith, turn)) e v.front) }

  -- all do at last
  pub done : m ≤ r → LengthsGives ps es m l₀ l
  done h =
      let s : r ≡ m = omega arith in
      record { only = rw s at v.only; front = rw s at v.front }

-- ---- the ends of edges, two by two in a row

-- the ends of edge i
pub two_by_two : (ss : List Step) (i : ℕ) → i < length ss → (get_or (each both_ends ss) (2 * i) 0 ≡ (get_or ss i none).from) × (get_or (each both_ends ss) (2 * i + 1) 0 ≡ (get_or ss i none).to)
unfolding each
two_by_two [] i h = absurd (omega arith)
two_by_two (s ∷ ss) zero h = (refl, refl)
two_by_two (s ∷ ss) (suc i) h =
    let r = two_by_two ss i (omega arith) in
    let a : 2 * suc i ≡ suc (suc (2 * i)) = omega arith in
    let b : 2 * suc i + 1 ≡ suc (suc (2 * i + 1)) = omega arith in
    (ap (λ k. get_or (each both_ends (s ∷ ss)) k 0) a ∙ r.0, ap (λ k. get_or (each both_ends (s ∷ ss)) k 0) b ∙ r.1)

-- they are points
edge_ends : (P : ℕ) (xs : List ℕ) → All (λ x. x < P) (each both_ends (edges P (faces_of xs)))
unfolding edges pairs
edge_ends P xs =
    all_each (λ x. x < P) both_ends (edges P (faces_of xs))
    (all_imp (λ s. ((s.from < P) × (s.to < P)) × T (any (λ n. same s (edge n.along)) (entries (faces_of xs)))) (λ s. All (λ x. x < P) (both_ends s)) (λ s h. (h.0.0, (h.0.1, tt))) (edges P (faces_of xs))
    (all_filter (λ s. (s.from < P) × (s.to < P)) (λ s. any (λ n. same s (edge n.along)) (entries (faces_of xs))) (pairs P)
    (all_each (λ s. (s.from < P) × (s.to < P)) (λ x. map (λ y. step x y) (below P)) (below P)
    (all_imp (λ x. x < P) (λ x. All (λ s. (s.from < P) × (s.to < P)) (map (λ y. step x y) (below P)))
    (λ x h. all_map (λ s. (s.from < P) × (s.to < P)) (λ y. step x y) (below P) (all_imp (λ y. y < P) (λ y. (x < P) × (y < P)) (λ y k. (h, k)) (below P) (below_all P))) (below P) (below_all P)))))

-- the rules' length of an edge
abbrev length_of : List Float → Step → Float
length_of ps e = norm (difference (point (points_of ps) e.to) (point (points_of ps) e.from))

module _ {ps : List Float} {xs es : List ℕ} {m : ℕ} {l₀ : List Float} (q : ListLengthsAsks ps xs es m l₀) where
  -- the rules' edges
  abbrev ss : List Step
  ss = edges (length ps / 3) (faces_of xs)

  -- entry k of the row is that of their ends
  end_at : (k : ℕ) → k < 2 * m → get_or es k 0 ≡ get_or (each both_ends ss) k 0
  end_at k h = ap (λ j. get_or es j 0) (sym (zero-add k)) ∙ sym (get_d_part es 0 (2 * m) k h) ∙ ap (λ l. get_or l k 0) q.listed

  -- what the loop asks
  pub lengths_asks : LengthsAsks ps es m l₀
  lengths_asks =
      record {
        pairs = q.pairs;
        inside = λ k h.
            rw (end_at k h)
            (all_at (λ x. x < length ps / 3) (each both_ends ss) 0 k (edge_ends (length ps / 3) xs) (omega (arith, length_each 2 both_ends (λ s. refl) ss, q.count)));
        room = omega (arith, q.fewer, q.room);
      }

  -- the length of edge k is the rules'
  length_is : (k : ℕ) → k < m → length_at ps es k ≡ length_of ps (get_or ss k none)
  length_is k h =
      let t = two_by_two ss k (omega (arith, q.count)) in
      ap₂ (λ y x. norm (difference (point (points_of ps) y) (point (points_of ps) x))) (end_at (2 * k + 1) (omega arith) ∙ t.1) (end_at (2 * k) (omega arith) ∙ t.0)

  -- all are
  lengths_are : rule.lengths (points_of ps) (faces_of xs) ≡ map (length_of ps) ss
  unfolding rule.lengths
  lengths_are = ap (λ P. map (length_of ps) (edges P (faces_of xs))) (length_points ps)

  module _ {l : List Float} (g : LengthsGives ps es m l₀ l) where
    -- the rest of the room is there
    pub rest_fits : m + (length xs - m) ≤ length l
    rest_fits = omega (arith, q.fewer, q.room, g.only.long)

    -- the front is the rules' list
    front_is : take m l ≡ rule.lengths (points_of ps) (faces_of xs)
    front_is =
        let n = length_part l 0 m (omega (arith, rest_fits)) in
        let c = q.count in
        ext_get_or nan (take m l) (map (length_of ps) ss) (n ∙ c ∙ sym (length-map ss (length_of ps)))
        (λ i k.
        let h : i < m = omega (arith, n) in
        get_or_part_of nan l 0 m i h ∙ g.front.each i h ∙ length_is i h ∙ sym (get_or_map_in (length_of ps) ss i none nan (omega arith)))
        ∙ sym lengths_are

    -- once the rest is cleared, the room is the rules'
    pub room_done : {l' : List Float} → OnlyOf nan m (length xs - m) l l' → HoldsOf nan m (length xs - m) (λ i. zero64) l' → ListLengthsGives ps xs l₀ l'
    room_done o z = record { whole = filled_is q.room q.fewer g.only front_is o z }
