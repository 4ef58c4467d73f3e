-- The faces that take a new point, told by one pass over the corners at it. Assumes nothing.
use mathlib.Core.Path.{◌≡◌, refl, ap, ◌∙◌}
use mathlib.Core.Bool.{Bool, true, false, cond}
use mathlib.Core.List.{List, [], ◌∷◌, ◌++◌}
use Prim.Native.Nat.{ℕ, suc, ◌+◌, ◌-◌, ◌*◌, ◌/◌, ◌≤◌, ◌<◌}
use native.Mathlib.Omega.{arith}
use lib.Dec.{eqb}
use lib.ListN.{length, get_or, take, length-append}
use lib.Seq.{drop-cons}
use Rattle.byte_rows.specs.Put.{Puts}
use Rattle.rows.specs.Region.{part}
use Rattle.rules.specs.Lists.{each}
use Rattle.rule_laws.proofs.Digits.{decimal_short}
use Rattle.list_text.specs.declared.Rows.{Rows}
use Rattle.list_text.specs.Written.{field, once, taker_text, fields_of, run_text, RunAsks}
use Rattle.list_text.proofs.Onward.{Sofar, begin, room, on, finish}
use Rattle.list_text.proofs.Corners.{id_below}

-- ---- the fields of the faces

-- the first of some corners
fields_cons : (origins : List ℕ) (last id : ℕ) (ids : List ℕ) → fields_of origins last (id ∷ ids) ≡ taker_text origins (id / 3) last ++ fields_of origins (id / 3) ids
unfolding each
fields_cons origins last id ids = go (eqb (id / 3) last)
  where
    go : (b : Bool) → each (λ i. field (get_or origins i 0)) (cond b [] ((id / 3) ∷ []) ++ once (id / 3) ids) ≡ cond b [] (field (get_or origins (id / 3) 0)) ++ fields_of origins (id / 3) ids
    go true = refl
    go false = refl

-- a face's field is at most 11 bytes
pub taker_most : (origins : List ℕ) (i last : ℕ) → length (taker_text origins i last) ≤ 11
taker_most origins i last = go (eqb i last)
  where
    go : (b : Bool) → length (cond b [] (field (get_or origins i 0))) ≤ 11
    go true = omega arith
    go false = omega (arith, decimal_short (get_or origins i 0))

module _ (w origins : List ℕ) (rows : Rows) (to : ℕ) where
  -- the fields that are left from q on
  abbrev pub left_from : ℕ → ℕ → List ℕ
  left_from last q = fields_of origins last (part w (rows.sorted + q) (to - q))

  -- they begin with that of the corner at q
  pub left_at : (last q : ℕ) → q < to → rows.sorted + to ≤ length w → left_from last q ≡ taker_text origins (get_or w (rows.sorted + q) 0 / 3) last ++ left_from (get_or w (rows.sorted + q) 0 / 3) (q + 1)
  left_at last q h fit =
      let a = rows.sorted + q in
      let e : to - q ≡ suc (to - (q + 1)) = omega arith in
      let s : suc a ≡ rows.sorted + (q + 1) = omega arith in
      let p : part w a (to - q) ≡ get_or w a 0 ∷ part w (rows.sorted + (q + 1)) (to - (q + 1)) =
      ap (λ (n : ℕ). part w a n) e ∙ ap (take (suc (to - (q + 1)))) (drop-cons w a 0 (omega arith)) ∙ ap (λ (b : ℕ). get_or w a 0 ∷ part w b (to - (q + 1))) s in
      ap (fields_of origins last) p ∙ fields_cons origins last (get_or w a 0) (part w (rows.sorted + (q + 1)) (to - (q + 1)))

  -- behind the last corner there is none
  pub left_end : (last q : ℕ) → to ≤ q → left_from last q ≡ []
  unfolding each
  left_end last q h = let e : to - q ≡ 0 = omega arith in rw e refl

-- ---- the loop over the corners at a new point

-- the corner at q is in the room, and its face has an origin
pub record Corner (w origins : List ℕ) (rows : Rows) (q : ℕ) : Type 0 where
  pub place : rows.sorted + q < length w
  pub has_origin : get_or w (rows.sorted + q) 0 / 3 < length origins

pub corner_at : {w origins : List ℕ} {rows : Rows} {from to : ℕ} → RunAsks w origins rows from to → (q : ℕ) → q < to → Corner w origins rows q
corner_at a q h = record { place = omega (arith, a.inside, a.sorted.sorted_fit); has_origin = omega (arith, a.inside, a.origins_fit, id_below a.sorted q (omega (arith, a.inside))) }

-- the fields of the faces at the corners before q are put
pub record Taken (w origins : List ℕ) (rows : Rows) (from to : ℕ) (w₀ : List ℕ) (at : ℕ) (text : List ℕ) (next last q : ℕ) : Type 0 where
  pub most : q ≤ to
  pub sofar : Sofar (run_text w origins rows from to) w₀ at text next (left_from w origins rows to last q)

-- or their lengths summed
pub record Measured (w origins : List ℕ) (rows : Rows) (from to total last q : ℕ) : Type 0 where
  pub most : q ≤ to
  pub sum : total + length (left_from w origins rows to last q) ≡ length (run_text w origins rows from to)
  pub small : total + 11 * from ≤ 11 * q

module _ {w origins : List ℕ} {rows : Rows} {from to : ℕ} (a : RunAsks w origins rows from to) where
  -- the row of sorted corners is in the room
  run_fit : rows.sorted + to ≤ length w
  run_fit = omega (arith, a.inside, a.sorted.sorted_fit)

  -- before the first corner none is
  pub take_begin : {w₀ : List ℕ} {at : ℕ} → at + length (run_text w origins rows from to) ≤ length w₀ → Taken w origins rows from to w₀ at w₀ at rows.left from
  take_begin h = record { most = a.rises; sofar = begin h }

  pub measure_begin : Measured w origins rows from to 0 rows.left from
  measure_begin = record { most = a.rises; sum = omega arith; small = omega arith }

  module _ {w₀ : List ℕ} {at : ℕ} {text : List ℕ} {next last q : ℕ} (v : Taken w origins rows from to w₀ at text next last q) where
    -- the next one has room
    pub take_room : q < to → next + length (taker_text origins (get_or w (rows.sorted + q) 0 / 3) last) ≤ length text
    take_room h =
        let i = get_or w (rows.sorted + q) 0 / 3 in
        room (taker_text origins i last) (left_from w origins rows to i (q + 1)) (rw (left_at w origins rows to last q h run_fit) at v.sofar)

    -- it is put
    pub take_on : {text' : List ℕ} {r : ℕ} → q < to → Puts text next (taker_text origins (get_or w (rows.sorted + q) 0 / 3) last) text' r → Taken w origins rows from to w₀ at text' r (get_or w (rows.sorted + q) 0 / 3) (q + 1)
    take_on h p =
        let i = get_or w (rows.sorted + q) 0 / 3 in
        record { most = omega arith; sofar = on (taker_text origins i last) (left_from w origins rows to i (q + 1)) (rw (left_at w origins rows to last q h run_fit) at v.sofar) p }

    -- all are
    pub take_done : to ≤ q → Puts w₀ at (run_text w origins rows from to) text next
    take_done h = finish (rw (left_end w origins rows to last q h) at v.sofar)

  module _ {total last q : ℕ} (v : Measured w origins rows from to total last q) where
    pub measure_on : {k : ℕ} → q < to → k ≡ length (taker_text origins (get_or w (rows.sorted + q) 0 / 3) last) → Measured w origins rows from to (total + k) (get_or w (rows.sorted + q) 0 / 3) (q + 1)
    measure_on h e =
        let i = get_or w (rows.sorted + q) 0 / 3 in
        record {
          most = omega arith;
          sum = omega (arith, e, v.sum, ap length (left_at w origins rows to last q h run_fit), length-append (taker_text origins i last) (left_from w origins rows to i (q + 1)));
          small = omega (arith, e, v.small, taker_most origins i last);
        }

    pub measure_done : to ≤ q → (total ≡ length (run_text w origins rows from to)) × (total + 11 * from ≤ 11 * to)
    measure_done h = (omega (arith, v.sum, ap length (left_end w origins rows to last q h)), omega (arith, v.small, v.most))
