-- The lines of pass 5 in the order of the corners that open their groups, and the length of their text by those corners in face order. Assumes nothing.
use mathlib.Core.Path.{◌≡◌, refl, sym, ap, ap₂, ◌∙◌}
use mathlib.Core.Bool.{Bool}
use mathlib.Core.List.{List, [], ◌∷◌, ◌++◌, map, map-map, Memᴰ}
use Prim.Native.Nat.{ℕ, suc, ◌+◌, ◌*◌, ◌<◌}
use native.Mathlib.Omega.{arith}
use lib.ListN.{length, length-append, length-map}
use Rattle.rules.specs.Lists.{below, filter, count, each, has}
use Rattle.rules.specs.Mesh.{Face, face, corners, renamed}
use Rattle.rules.specs.State.{State}
use Rattle.rules.specs.Line.{bytes, decimal}
use Rattle.rules.specs.Text.{text_line}
use Rattle.rules.specs.Pass5.{pass5}
use Rattle.rules.specs.Mending.{Line, split_point, line_text, lines5}
use Rattle.rule_laws.proofs.Lists.{each_map, length_below}
use Rattle.rule_laws.proofs.Rising.{All, map_same}
use Rattle.rule_laws.proofs.Members.{in_all}
use Rattle.rule_laws.proofs.Once.{Inside}
use Rattle.rule_laws.proofs.Splitting.{face_map_below}
use Rattle.splitting.specs.Corners.{corner_at, base, goal_of}
use Rattle.splitting.proofs.Agreeing.{on_below}
use Rattle.splitting.proofs.Goals.{faces_are, points_many}
use Rattle.split_laws.specs.Olds.{old_of, takers_of}
use Rattle.split_laws.proofs.Lines.{splits, lines5_are}
use Rattle.split_laws.proofs.Taken.{listed_same}
use Rattle.fan_laws.specs.Sums.{sum_of, field}
use Rattle.fan_laws.specs.Opening.{opens, opens_at, openers, rank, takes, weight}
use Rattle.fan_laws.proofs.Sums.{sum_agree, sum_plus, sum_map, length_each_sum, all_classes}
use Rattle.fan_laws.proofs.Filtered.{length_count}
use Rattle.fan_laws.proofs.Order.{base_shift, ranks_line, opener_is, old_rank}
use Rattle.fan_laws.proofs.Takers.{takes_it, corner_low}

-- one for each
pub long : (xs : List ℕ) → length xs ≡ sum_of (λ id. 1) xs
unfolding sum_of
long [] = refl
long (x ∷ xs) = omega (arith, long xs)

-- fields after tabs
fields_length : (xs : List ℕ) → length (each (λ f. 9 ∷ f) (map decimal xs)) ≡ sum_of field xs
fields_length xs = ap length (each_map (λ f. 9 ∷ f) decimal xs) ∙ length_each_sum (λ x. 9 ∷ decimal x) xs ∙ unfold field in refl

-- the length of a split's line
pub split_text : (old new : ℕ) (xs : List ℕ) → length (line_text (split_point old new xs)) ≡ 2 + field old + sum_of field xs + field new
unfolding line_text text_line each bytes field
split_text old new xs =
    let r = each (λ f. 9 ∷ f) (map decimal xs) in
    omega (
      arith,
      length-append ((9 ∷ decimal old) ++ ((9 ∷ decimal new) ++ r)) (10 ∷ []),
      length-append (9 ∷ decimal old) ((9 ∷ decimal new) ++ r),
      length-append (9 ∷ decimal new) r,
      fields_length xs,
    )

module _ (m : State) (inside : Inside (length m.points) m.faces) where
  abbrev fs : List Face
  fs = m.faces

  abbrev P : ℕ
  P = length m.points

  -- the origins of those that take the point which is split off for corner id
  abbrev takersFor : ℕ → List ℕ
  takersFor id = map (λ i. (face fs i).origin) (filter (takes fs id) (below (length fs)))

  -- as many are split off as the base says
  pub splits_base : splits m inside ≡ base fs 0 P
  splits_base = omega (arith, points_many m inside, base_shift fs P P)

  -- a face after the pass
  pub face_then : (i : ℕ) → i < length fs → corners (face (pass5 m).faces i) ≡ map (goal_of fs P i) (corners (face fs i))
  face_then i h =
      ap (λ gs. corners (face gs i)) (faces_are m inside)
      ∙ ap corners (face_map_below (λ k. renamed (goal_of fs P k) (face fs k)) (length fs) i h)
      ∙ unfold renamed in refl

  -- those that have a new point then are those that take it
  takers_then : (id : ℕ) → Memᴰ id (openers fs P) → takers_of fs (pass5 m).faces (P + rank fs id) ≡ takersFor id
  unfolding takers_of
  takers_then id k =
      let o = opener_is fs P id k in
      listed_same (length fs) (λ i. (face fs i).origin) (λ i. (face fs i).origin) (λ i. has (P + rank fs id) (corners (face (pass5 m).faces i))) (takes fs id) (λ i h. refl)
      (λ i h. ap (has (P + rank fs id)) (face_then i h) ∙ takes_it fs P inside id i o.0 o.2 h)

  -- the lines, by the corners that open their groups
  pub lines5_openers : lines5 m ≡ map (λ id. split_point (corner_at fs id) (P + rank fs id) (takersFor id)) (openers fs P)
  lines5_openers =
      lines5_are m inside
      ∙ ap (map rule) (ap below splits_base ∙ sym (ranks_line fs P))
      ∙ map-map rule (rank fs) (openers fs P)
      ∙ map_same (λ id. rule (rank fs id)) (λ id. split_point (corner_at fs id) (P + rank fs id) (takersFor id)) (openers fs P)
      (in_all (λ id. rule (rank fs id) ≡ split_point (corner_at fs id) (P + rank fs id) (takersFor id)) (openers fs P)
      (λ id k. ap₂ (λ (a : ℕ) (b : List ℕ). split_point a (P + rank fs id) b) (old_rank fs P id k) (takers_then id k)))
    where
      rule : ℕ → Line
      rule j = split_point (old_of fs P j) (P + j) (takers_of fs (pass5 m).faces (P + j))

  -- one line's text
  line_length : (id : ℕ) → length (line_text (split_point (corner_at fs id) (P + rank fs id) (takersFor id))) ≡ weight fs id + field (P + rank fs id)
  unfolding weight
  line_length id =
      split_text (corner_at fs id) (P + rank fs id) (takersFor id)
      ∙ ap (λ (n : ℕ). 2 + field (corner_at fs id) + n + field (P + rank fs id)) (sum_map field (λ i. (face fs i).origin) (filter (takes fs id) (below (length fs))))

  -- every opener, in face order: as sums
  pub in_line : (g : ℕ → ℕ) → sum_of g (openers fs P) ≡ sum_of g (filter (opens fs) (below (3 * length fs)))
  unfolding openers opens_at
  in_line g = all_classes (corner_at fs) (opens fs) g P (below (3 * length fs)) (on_below (λ y. corner_at fs y < P) (3 * length fs) (corner_low fs P inside))

  -- how many are split off
  pub splits_open : splits m inside ≡ count (opens fs) (below (3 * length fs))
  splits_open =
      splits_base
      ∙ sym (length_below (base fs 0 P))
      ∙ ap length (sym (ranks_line fs P))
      ∙ length-map (openers fs P) (rank fs)
      ∙ long (openers fs P)
      ∙ in_line (λ id. 1)
      ∙ sym (long (filter (opens fs) (below (3 * length fs))))
      ∙ length_count (opens fs) (3 * length fs)

  -- the length of the text: a weight for each corner that opens a group, in face order, and the new points' numbers
  pub split_length :
      length (each line_text (lines5 m))
      ≡ sum_of (weight fs) (filter (opens fs) (below (3 * length fs))) + sum_of (λ j. field (P + j)) (below (count (opens fs) (below (3 * length fs))))
  split_length =
      length_each_sum line_text (lines5 m)
      ∙ ap (sum_of (λ l. length (line_text l))) lines5_openers
      ∙ sum_map (λ l. length (line_text l)) (λ id. split_point (corner_at fs id) (P + rank fs id) (takersFor id)) (openers fs P)
      ∙ sum_agree (λ id. length (line_text (split_point (corner_at fs id) (P + rank fs id) (takersFor id)))) (λ id. weight fs id + field (P + rank fs id)) (openers fs P)
      (in_all (λ id. length (line_text (split_point (corner_at fs id) (P + rank fs id) (takersFor id))) ≡ weight fs id + field (P + rank fs id)) (openers fs P) (λ id k. line_length id))
      ∙ sum_plus (weight fs) (λ id. field (P + rank fs id)) (openers fs P)
      ∙ ap₂ (λ (a b : ℕ). a + b) (in_line (weight fs))
      (sym (sum_map (λ j. field (P + j)) (rank fs) (openers fs P))
      ∙ ap (sum_of (λ j. field (P + j))) (ranks_line fs P ∙ ap below (sym splits_base ∙ splits_open)))
