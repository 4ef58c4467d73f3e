-- Pass 6 after pass 5: an old point is used exactly if its first corner is one of a face with different corners, a new one unless its corner is lost; and the
-- length of the lines that tell the unused ones. Assumes nothing.
use mathlib.Core.Path.{◌≡◌, refl, sym, ap, ap₂, ◌∙◌, subst}
use mathlib.Core.Logic.{◌≢◌, ◌⊎◌, inl, inr}
use mathlib.Core.Bool.{Bool, true, false, not, ◌&&◌, ◌||◌, cond}
use mathlib.Core.List.Memᴰ
use mathlib.Core.List.{List, [], ◌∷◌, ◌++◌, map, Memᴰ}
use Prim.Native.Nat.{ℕ, zero, suc, ◌+◌, ◌*◌, ◌/◌, ◌≤◌, ◌<◌}
use native.Mathlib.Omega.{arith}
use native.Mathlib.Decide.{ℕ_discrete, dec_lt}
use borrow.Author.Tests.{eq-eqb, ne_eqb}
use lib.Dec.{T, eqb, eqb→eq, eqb_refl, not_T}
use lib.Ieee.Fits.{and_i}
use lib.Ieee.Bits.{is_true, is_false}
use lib.ListN.{length, get_or, length-append}
use Rattle.rules.specs.Lists.{below, filter, count, any, each, has}
use Rattle.rules.specs.Mesh.{Face, face, corners, renamed}
use Rattle.rules.specs.State.{State}
use Rattle.rules.specs.Groups.{group, leads}
use Rattle.rules.specs.Line.{bytes, decimal}
use Rattle.rules.specs.Text.{text_line}
use Rattle.rules.specs.Pass5.{pass5}
use Rattle.rules.specs.Pass6.{used, marked6}
use Rattle.rules.specs.Mending.{Line, isolated_point, line_text, lines6}
use Rattle.rule_laws.proofs.Tests.{and_elim, both_ways}
use Rattle.rule_laws.proofs.Lists.{each_append, filter_append, filter_map, length_below}
use Rattle.rule_laws.proofs.Members.{any_intro, any_mem, mem_below, below_mem, mem_has, has_mem, in_all, mem_index, mem_at, mem_three}
use Rattle.rule_laws.proofs.Rising.{All, all_at}
use Rattle.rule_laws.proofs.Once.{Inside}
use Rattle.rule_laws.proofs.Groups.{Chain, Chain.stay, Chain.link, group_self, group_chain, covered}
use Rattle.rule_laws.proofs.Leaders.{leads_le}
use Rattle.splitting.specs.Corners.{corner_at, joined_at, goal_of}
use Rattle.splitting.specs.Corners.{corners_at, extra, number_at, base}
use Rattle.splitting.proofs.Agreeing.{on_below}
use Rattle.splitting.proofs.Entries.{corner, as_many, corner_is, one_point, joined_turns}
use Rattle.splitting.proofs.Numbers.{number_new, number_old}
use Rattle.splitting.proofs.Goals.{led, base_least, points_many}
use Rattle.split_laws.proofs.Lines.{splits, faces_long}
use Rattle.fan_laws.specs.Sums.{sum_of, field}
use Rattle.fan_laws.specs.Opening.{met, opens, opens_at, openers, rank, single, giver, is_in_group, takes, lost, kept}
use Rattle.fan_laws.proofs.Sums.{sum_append, sum_agree, sum_map, length_each_sum}
use Rattle.fan_laws.proofs.Filtered.{below_add}
use Rattle.fan_laws.proofs.Order.{ranks_line, base_shift, opener_is, opens_extra, at_point, open_here}
use Rattle.fan_laws.proofs.Takers.{takes_it, another, the_one, corner_number, number_corner, goal_single, corner_low}
use Rattle.fan_laws.proofs.Weights.{takes_group, takes_alone, group_in, group_alone}
use Rattle.fan_laws.proofs.Lengths.{face_then, splits_base, in_line}

-- ---- the length of the lines

-- one line
pub isolated_text : (v : ℕ) → length (line_text (isolated_point v)) ≡ 2 + field v
unfolding line_text text_line each bytes field
isolated_text v = omega (arith, length-append ((9 ∷ decimal v) ++ []) (10 ∷ []), length-append (9 ∷ decimal v) [])

-- a line for each marked number, or none
marked_text : (p : ℕ → Bool) (v : ℕ) → length (each line_text (cond (p v) (isolated_point v ∷ []) [])) ≡ cond (p v) (2 + field v) 0
marked_text p v = go (p v)
  where
    go : (b : Bool) → length (each line_text (cond b (isolated_point v ∷ []) [])) ≡ cond b (2 + field v) 0
    go true = unfold each in (omega (arith, length-append (line_text (isolated_point v)) [], isolated_text v))
    go false = unfold each in refl

-- the texts of lists of lines
flat : (f : ℕ → List Line) (xs : List ℕ) → each line_text (each f xs) ≡ each (λ v. each line_text (f v)) xs
unfolding each
flat f [] = refl
flat f (x ∷ xs) = each_append line_text (f x) (each f xs) ∙ ap (λ l. each line_text (f x) ++ l) (flat f xs)

-- lists of lines, one after the other
text_each : (f : ℕ → List Line) (xs : List ℕ) → length (each line_text (each f xs)) ≡ sum_of (λ v. length (each line_text (f v))) xs
text_each f xs = ap length (flat f xs) ∙ length_each_sum (λ v. each line_text (f v)) xs

-- the lines of pass 6
pub lines6_length : (m : State) → length (each line_text (lines6 m)) ≡ sum_of (λ v. cond (marked6 m.faces v) (2 + field v) 0) (below (length m.points))
unfolding lines6
lines6_length m =
    text_each (λ v. cond (marked6 m.faces v) (isolated_point v ∷ []) []) (below (length m.points))
    ∙ sum_agree (λ v. length (each line_text (cond (marked6 m.faces v) (isolated_point v ∷ []) []))) (λ v. cond (marked6 m.faces v) (2 + field v) 0) (below (length m.points))
    (in_all (λ v. length (each line_text (cond (marked6 m.faces v) (isolated_point v ∷ []) [])) ≡ cond (marked6 m.faces v) (2 + field v) 0) (below (length m.points)) (λ v k. marked_text (marked6 m.faces) v))

module _ (m : State) (inside : Inside (length m.points) m.faces) where
  abbrev fs : List Face
  fs = m.faces

  abbrev P : ℕ
  P = length m.points

  abbrev gs : List Face
  gs = (pass5 m).faces

  -- a point is used by one of the faces
  used_by : (p : ℕ) → T (used gs p) → (i : ℕ) × (i < length fs) × T (has p (map (goal_of fs P i) (corners (face fs i))))
  unfolding used face
  used_by p t =
      let w = any_mem (λ f. has p (corners f)) gs t in
      let k = mem_index (record { a = 0; b = 0; c = 0; origin = 0 }) w.0 gs w.1 in
      let h : k.0 < length fs = omega (arith, k.1, faces_long m inside) in
      (k.0, h, subst (λ l. T (has p l)) (sym (ap corners k.2) ∙ face_then m inside k.0 h) w.2)

  -- and the other way
  by_used : (p i : ℕ) → i < length fs → T (has p (map (goal_of fs P i) (corners (face fs i)))) → T (used gs p)
  unfolding used face
  by_used p i h t =
      any_intro (λ f. has p (corners f)) (face gs i) gs (mem_at gs i (record { a = 0; b = 0; c = 0; origin = 0 }) (omega (arith, faces_long m inside))) (subst (λ l. T (has p l)) (sym (face_then m inside i h)) t)

  -- ---- new points

  -- the new point of corner id is unused exactly if the corner is lost
  pub new_unused : (id : ℕ) → Memᴰ id (openers fs P) → marked6 gs (P + rank fs id) ≡ lost fs id
  unfolding marked6 lost
  new_unused id k =
      let o = opener_is fs P id k in
      turn (used gs (P + rank fs id)) (lost fs id) (both_ways (used gs (P + rank fs id)) (not (lost fs id)) (to o.0 o.2) (from o.0 o.2))
    where
      turn : (a b : Bool) → a ≡ not b → not a ≡ b
      turn a true e = ap not e
      turn a false e = ap not e

      to : id < 3 * length fs → T (opens fs id) → T (used gs (P + rank fs id)) → T (not (lost fs id))
      to h o t =
          let w = used_by (P + rank fs id) t in
          let s : T (takes fs id w.0) = subst T (takes_it fs P inside id w.0 h o w.1) w.2 in
          go (single (face fs (id / 3))) refl w.0 s
        where
          go : (b : Bool) → single (face fs (id / 3)) ≡ b → (i : ℕ) → T (takes fs id i) → T (not (b && not (eqb id (giver fs (id / 3)))))
          go false e i s = tt
          go true e i s =
              let q = and_elim (eqb i (id / 3)) (eqb id (giver fs (id / 3))) (subst T (takes_alone fs id i h (subst T (sym e) tt)) s) in
              subst (λ (b : Bool). T (not (not b))) (sym (is_true (eqb id (giver fs (id / 3))) q.1)) tt

      from : id < 3 * length fs → T (opens fs id) → T (not (lost fs id)) → T (used gs (P + rank fs id))
      from h o t = by_used (P + rank fs id) (id / 3) (omega arith) (subst T (sym (takes_it fs P inside id (id / 3) h o (omega arith))) (go (single (face fs (id / 3))) refl t))
        where
          double : (b : Bool) → T (not (not b)) → T b
          double true t = tt
          double false t = t

          go : (b : Bool) → single (face fs (id / 3)) ≡ b → T (not (b && not (eqb id (giver fs (id / 3))))) → T (takes fs id (id / 3))
          go false e t = subst T (sym (takes_group fs id (id / 3) h e)) (group_in fs id id (group_self (joined_at fs) (3 * length fs) id h))
          go true e t =
              subst T (sym (takes_alone fs id (id / 3) h (subst T (sym e) tt)))
              (and_i (eqb (id / 3) (id / 3)) (eqb id (giver fs (id / 3))) (eqb_refl (id / 3)) (double (eqb id (giver fs (id / 3))) t))

  -- ---- old points

  abbrev all : ℕ
  all = 3 * length fs

  -- all of a group are at one point
  chain_point : {id y : ℕ} → Chain (joined_at fs) all id y → corner_at fs y ≡ corner_at fs id
  chain_point stay = refl
  chain_point (link {j = j} {k = k} c t b) = sym (one_point fs j k t) ∙ chain_point c

  -- a leader that opens no group is the first at its point
  first_there : (L : ℕ) → T (leads (joined_at fs) all L) → opens fs L ≡ false → met fs (corner_at fs L) L ≡ false
  unfolding opens
  first_there L t e = sym (whole (met fs (corner_at fs L) L)) ∙ sym (ap (λ (b : Bool). met fs (corner_at fs L) L && b) (is_true (leads (joined_at fs) all L) t)) ∙ e
    where
      whole : (b : Bool) → (b && true) ≡ b
      whole true = refl
      whole false = refl

  -- the first at its point opens none
  first_shut : (L : ℕ) → met fs (corner_at fs L) L ≡ false → opens fs L ≡ false
  unfolding opens
  first_shut L e = ap (λ (b : Bool). b && leads (joined_at fs) all L) e

  -- a corner by its place at its point: it opens a group exactly if it is extra
  opens_place : (v l : ℕ) → l < length (corners_at fs v) → opens fs (corner fs v l) ≡ extra fs v l
  opens_place v l h =
      both_ways (opens fs (corner fs v l)) (extra fs v l)
      (λ t. subst T (opens_extra fs v l h) (subst (λ u. T (opens_at fs u (corner fs v l))) (corner_is fs v l (omega (arith, as_many fs v))).1 (open_here fs (corner fs v l) t)))
      (λ t. (at_point fs v (corner fs v l) (subst T (sym (opens_extra fs v l h)) t)).1)

  -- a point of the input that is used after the pass
  old_to : (v : ℕ) → v < P → T (used gs v) → T (kept fs v)
  unfolding kept
  old_to v hv t =
      let w = used_by v t in
      let g = Memᴰ.of_map (goal_of fs P w.0) (corners (face fs w.0)) (has_mem v (map (goal_of fs P w.0) (corners (face fs w.0))) w.2) in
      go w.0 g.0 w.1 g.1 g.2 (single (face fs w.0)) refl
    where
      only : (i x : ℕ) → Memᴰ x (corners (face fs i)) → T (single (face fs i)) → x ≡ (face fs i).a
      only i x k s = pick (mem_three k) (the_one (face fs i) s)
        where
          pick : (x ≡ (face fs i).a) ⊎ ((x ≡ (face fs i).b) ⊎ (x ≡ (face fs i).c)) → ((face fs i).b ≡ (face fs i).a) × ((face fs i).c ≡ (face fs i).a) → x ≡ (face fs i).a
          pick (inl e) o = e
          pick (inr (inl e)) o = e ∙ o.0
          pick (inr (inr e)) o = e ∙ o.1

      leader : (i x y L l : ℕ) → y / 3 ≡ i → single (face fs i) ≡ false → L < all → T (leads (joined_at fs) all L) → Memᴰ y (group (joined_at fs) all L) → l < length (corners_at fs x) → L ≡ corner fs x l
          → number_at fs x (base fs P x) l ≡ v → (b : Bool) → extra fs x l ≡ b → T (any (λ id. eqb (corner_at fs id) v && (not (met fs v id) && not (single (face fs (id / 3))))) (below all))
      leader i x y L l ey s hL tL mL hl eL n true e = absurd (omega (arith, number_new fs x (base fs P x) l (subst T (sym e) tt), base_least fs P x))
      leader i x y L l ey s hL tL mL hl eL n false e =
          let xv : x ≡ v = sym (number_old fs x (base fs P x) l e) ∙ n in
          let cL : corner_at fs L ≡ v = ap (corner_at fs) eL ∙ (corner_is fs x l (omega (arith, as_many fs x))).1 ∙ xv in
          let f : met fs (corner_at fs L) L ≡ false = first_there L tL (ap (opens fs) eL ∙ opens_place x l hl ∙ e) in
          any_intro (λ id. eqb (corner_at fs id) v && (not (met fs v id) && not (single (face fs (id / 3))))) L (below all) (mem_below L all hL)
          (rw (eq-eqb (corner_at fs L) v cL, sym (ap (λ u. met fs u L) cL) ∙ f, several (single (face fs (L / 3))) refl) tt)
        where
          several : (b : Bool) → single (face fs (L / 3)) ≡ b → single (face fs (L / 3)) ≡ false
          several false q = q
          several true q =
              let z = group_alone fs L y hL (subst T (sym q) tt) mL in
              ap (λ k. single (face fs (k / 3))) (sym z) ∙ ap (λ k. single (face fs k)) ey ∙ s

      go : (i x : ℕ) → i < length fs → Memᴰ x (corners (face fs i)) → goal_of fs P i x ≡ v → (b : Bool) → single (face fs i) ≡ b → T (any (λ id. eqb (corner_at fs id) v && (not (met fs v id) && not (single (face fs (id / 3))))) (below all))
      go i x hi k n true s =
          let t : T (single (face fs i)) = subst T (sym s) tt in
          absurd (omega (arith, (goal_single fs P inside i hi t).0, sym (ap (goal_of fs P i) (only i x k t)) ∙ n))
      go i x hi k n false s =
          let y = corner_number fs i x hi k in
          let c = covered (joined_at fs) all (joined_turns fs) y.0 y.1 in
          let o = another (face fs i) (corner_at fs y.0) s in
          let r = led fs P y.0 c.0 o.0 y.1 c.1 c.2 c.3 o.1 (subst (λ j. Memᴰ o.0 (corners (face fs j))) (sym y.2) o.2) in
          leader i (corner_at fs y.0) y.0 c.0 r.0 y.2 s c.1 c.2 c.3 r.1 r.2
          (sym r.3 ∙ ap (λ j. goal_of fs P j (corner_at fs y.0)) y.2 ∙ ap (goal_of fs P i) y.3 ∙ n) (extra fs (corner_at fs y.0) r.0) refl

  -- and one that is kept is used
  old_from : (v : ℕ) → v < P → T (kept fs v) → T (used gs v)
  unfolding kept
  old_from v hv t =
      let w = any_mem (λ id. eqb (corner_at fs id) v && (not (met fs v id) && not (single (face fs (id / 3))))) (below all) t in
      let a = and_elim (eqb (corner_at fs w.0) v) (not (met fs v w.0) && not (single (face fs (w.0 / 3)))) w.2 in
      let b = and_elim (not (met fs v w.0)) (not (single (face fs (w.0 / 3)))) a.1 in
      go w.0 (below_mem w.0 all w.1) (eqb→eq (corner_at fs w.0) v a.0) (flip (met fs v w.0) b.0) (flip (single (face fs (w.0 / 3))) b.1)
    where
      flip : (b : Bool) → T (not b) → b ≡ false
      flip true t = absurd t
      flip false t = refl

      leads_own : (id L : ℕ) → L < all → corner_at fs id ≡ v → met fs v id ≡ false → T (leads (joined_at fs) all L) → Memᴰ id (group (joined_at fs) all L) → Dec (L < id) → T (leads (joined_at fs) all id)
      leads_own id L hL c e tL mL (yes l) =
          absurd (subst T e (unfold met in (any_intro (λ y. eqb (corner_at fs y) v) L (below id) (mem_below L id l) (rw (eq-eqb (corner_at fs L) v (sym (chain_point (group_chain (joined_at fs) all L id mL)) ∙ c)) tt))))
      leads_own id L hL c e tL mL (no l) = let q : L ≡ id = omega (arith, leads_le (joined_at fs) all L id tL mL) in subst (λ k. T (leads (joined_at fs) all k)) q tL

      go : (id : ℕ) → id < all → corner_at fs id ≡ v → met fs v id ≡ false → single (face fs (id / 3)) ≡ false → T (used gs v)
      go id h c e s =
          let k = covered (joined_at fs) all (joined_turns fs) id h in
          let t = leads_own id k.0 k.1 c e k.2 k.3 (dec_lt k.0 id) in
          let o = another (face fs (id / 3)) (corner_at fs id) s in
          let r = led fs P id id o.0 h h t (group_self (joined_at fs) all id h) o.1 o.2 in
          let x : extra fs (corner_at fs id) r.0 ≡ false = sym (opens_place (corner_at fs id) r.0 r.1) ∙ ap (opens fs) (sym r.2) ∙ first_shut id (ap (λ u. met fs u id) c ∙ e) in
          let n : goal_of fs P (id / 3) (corner_at fs id) ≡ v = r.3 ∙ number_old fs (corner_at fs id) (base fs P (corner_at fs id)) r.0 x ∙ c in
          by_used v (id / 3) (omega arith) (mem_has v (map (goal_of fs P (id / 3)) (corners (face fs (id / 3)))) (subst (λ z. Memᴰ z (map (goal_of fs P (id / 3)) (corners (face fs (id / 3))))) n (Memᴰ.map (goal_of fs P (id / 3)) (number_corner fs id h))))

  -- so an old point is unused exactly if it is not kept
  pub old_unused : (v : ℕ) → v < P → marked6 gs v ≡ not (kept fs v)
  unfolding marked6
  old_unused v h = ap not (both_ways (used gs v) (kept fs v) (old_to v h) (old_from v h))

  -- ---- the length of the lines of pass 6 after pass 5

  -- how many points there are then
  points_then : length (pass5 m).points ≡ P + base fs 0 P
  points_then = points_many m inside ∙ base_shift fs P P

  -- those of the input that are not kept, and the new ones of lost corners, in face order
  pub isolated_length :
      length (each line_text (lines6 (pass5 m)))
      ≡ sum_of (λ v. cond (kept fs v) 0 (2 + field v)) (below P) + sum_of (λ id. cond (lost fs id) (2 + field (P + rank fs id)) 0) (filter (opens fs) (below all))
  isolated_length =
      lines6_length (pass5 m)
      ∙ ap (λ n. sum_of unused (below n)) points_then
      ∙ ap (sum_of unused) (below_add P (base fs 0 P))
      ∙ sum_append unused (below P) (map (λ r. P + r) (below (base fs 0 P)))
      ∙ ap₂ (λ (a b : ℕ). a + b) old new
    where
      unused : ℕ → ℕ
      unused v = cond (marked6 gs v) (2 + field v) 0

      turned : (b : Bool) (n : ℕ) → cond (not b) n 0 ≡ cond b 0 n
      turned true n = refl
      turned false n = refl

      old : sum_of unused (below P) ≡ sum_of (λ v. cond (kept fs v) 0 (2 + field v)) (below P)
      old =
          sum_agree unused (λ v. cond (kept fs v) 0 (2 + field v)) (below P)
          (on_below (λ v. unused v ≡ cond (kept fs v) 0 (2 + field v)) P (λ v h. ap (λ (b : Bool). cond b (2 + field v) 0) (old_unused v h) ∙ turned (kept fs v) (2 + field v)))

      new : sum_of unused (map (λ r. P + r) (below (base fs 0 P))) ≡ sum_of (λ id. cond (lost fs id) (2 + field (P + rank fs id)) 0) (filter (opens fs) (below all))
      new =
          sum_map unused (λ r. P + r) (below (base fs 0 P))
          ∙ ap (sum_of (λ r. unused (P + r))) (sym (ranks_line fs P))
          ∙ sum_map (λ r. unused (P + r)) (rank fs) (openers fs P)
          ∙ sum_agree (λ id. unused (P + rank fs id)) (λ id. cond (lost fs id) (2 + field (P + rank fs id)) 0) (openers fs P)
          (in_all (λ id. unused (P + rank fs id) ≡ cond (lost fs id) (2 + field (P + rank fs id)) 0) (openers fs P) (λ id k. ap (λ (b : Bool). cond b (2 + field (P + rank fs id)) 0) (new_unused id k)))
          ∙ in_line m inside (λ id. cond (lost fs id) (2 + field (P + rank fs id)) 0)
