-- The groups at a point are met by the corners that stand first in them: a scan that marks the point of each such corner finds whether any point has
-- two. Assumes nothing.
use mathlib.Core.Path.{◌≡◌, refl, sym, ap, ◌∙◌, subst}
use mathlib.Core.Bool.{Bool, true, false, ◌&&◌, and-false}
use mathlib.Core.List.{List, Memᴰ}
use Prim.Native.Nat.{ℕ, suc, ◌+◌, ◌*◌, ◌%◌, ◌^◌, ◌≤◌, ◌<◌}
use native.Mathlib.Omega.{arith}
use native.Mathlib.Numerals.{add-one}
use native.Mathlib.Decide.{ℕ_discrete}
use borrow.Author.Tests.{eq-eqb, ne_eqb}
use lib.ListN.{length, get_or, set}
use lib.Dec.{T, eqb, eqb→eq}
use lib.Ieee.Bits.{is_true}
use Rattle.rows.specs.Region.{Only, Holds, Apart.before}
use Rattle.rows.proofs.Regions.{only_none, only_both, only_set, holds_set, kept_at}
use Rattle.rules.specs.Lists.{below, filter, count, all, each}
use Rattle.rules.specs.Mesh.{faces_of, flat_faces, corners}
use Rattle.rules.specs.Groups.{leads}
use Rattle.rules.specs.Pass5.{fans}
use Rattle.rule_laws.proofs.Members.{in_all, all_in, all_elim, all_intro, mem_at, mem_index}
use Rattle.rule_laws.proofs.Counting.{count_next, count_stay, count_mono, count_below_agree}
use Rattle.rule_laws.proofs.Flat.{flat_faces_back}
use Rattle.rule_laws.proofs.Checked.{some_fan}
use Rattle.table.proofs.Ids.{three_faces}
use Rattle.flood.specs.Answers.{leader_of}
use Rattle.splitting.specs.Corners.{corner_at, joined_at}
use Rattle.splitting.proofs.Entries.{fans_leaders, joined_turns}
use Rattle.corner_groups.proofs.Joining.{corner_flat}
use Rattle.corner_groups.proofs.Laid.{leader_of_is, leads_own}
use Rattle.edge_check.specs.Answers.{MetAsks}

-- corner c is at v, and stands first in its group
abbrev pub first_at : List ℕ → ℕ → ℕ → Bool
first_at xs v c = eqb (get_or xs c 0) v && leads (joined_at (faces_of xs)) (length xs) c

-- the rules' test of the groups
abbrev pub one_each : List ℕ → Bool
one_each xs = all (λ v. eqb (length (fans (faces_of xs) v)) 1) (each corners (faces_of xs))

module _ (xs : List ℕ) (whole : length xs % 3 ≡ 0) where
  -- as many such corners as groups
  groups_are : (v : ℕ) → length (fans (faces_of xs) v) ≡ count (first_at xs v) (below (length xs))
  groups_are v =
      fans_leaders (faces_of xs) v
      ∙ ap (λ n. count (λ c. eqb (corner_at (faces_of xs) c) v && leads (joined_at (faces_of xs)) n c) (below n)) (three_faces xs whole)
      ∙ count_below_agree (λ c. eqb (corner_at (faces_of xs) c) v && leads (joined_at (faces_of xs)) (length xs) c) (first_at xs v) (length xs)
      (λ c h. ap (λ x. eqb x v && leads (joined_at (faces_of xs)) (length xs) c) (corner_flat xs whole c))

  -- the corners of the faces are the list
  corners_are : each corners (faces_of xs) ≡ xs
  unfolding flat_faces
  corners_are = flat_faces_back xs whole

  -- where no point has two, each used point has one
  all_met : ((v : ℕ) → Memᴰ v xs → count (first_at xs v) (below (length xs)) ≤ 1) → true ≡ one_each xs
  all_met once =
      sym (is_true (one_each xs)
      (all_intro (λ v. eqb (length (fans (faces_of xs) v)) 1) (each corners (faces_of xs))
      (in_all (λ v. T (eqb (length (fans (faces_of xs) v)) 1)) (each corners (faces_of xs))
      (λ v m.
      subst T (sym (eq-eqb (length (fans (faces_of xs) v)) 1 (omega (arith, groups_are v, once v (subst (Memᴰ v) corners_are m), some_fan (faces_of xs) v m)))) tt))))

  -- where the point of some corner has two, the answer is no
  two_met : (c : ℕ) → c < length xs → 1 < count (first_at xs (get_or xs c 0)) (below (length xs)) → false ≡ one_each xs
  two_met c h two = go (one_each xs) refl
    where
      go : (b : Bool) → one_each xs ≡ b → false ≡ b
      go false e = refl
      go true e =
          let v = get_or xs c 0 in
          let t = all_in (λ v. T (eqb (length (fans (faces_of xs) v)) 1)) v (each corners (faces_of xs)) (all_elim (λ v. eqb (length (fans (faces_of xs) v)) 1) (each corners (faces_of xs)) (subst T (sym e) tt)) (subst (Memᴰ v) (sym corners_are) (mem_at xs c 0 h)) in
          absurd (omega (arith, groups_are v, eqb→eq (length (fans (faces_of xs) v)) 1 t))

-- ---- the scan

-- before corner c: each point's mark is the number of groups met there, none of which is two
pub record Met (P : ℕ) (xs w₀ w : List ℕ) (c : ℕ) : Type 0 where
  pub at_most : c ≤ length xs
  pub only : Only (10 * length xs + 2 + P) P w₀ w
  pub marks : Holds (10 * length xs + 2 + P) P (λ v. count (first_at xs v) (below c)) w
  pub once : (v : ℕ) → v < P → count (first_at xs v) (below c) ≤ 1

-- the bounds of one turn
pub record Turn (P : ℕ) (xs w : List ℕ) (c : ℕ) : Type 0 where
  pub room : 10 * length xs + 2 + P + P ≤ length w
  pub point : get_or xs c 0 < P
  pub member : get_or w (9 * length xs + 2 + P + c) 0 < length xs
  pub few : length xs < 2 ^ 31

-- the bounds before the scan
pub bounds : {P : ℕ} {xs w : List ℕ} → MetAsks P xs w → (length xs < 2 ^ 31) × (10 * length xs + 2 + P + P ≤ length w)
bounds p = (p.few, p.fit)

-- at first none is met
pub begin : {P : ℕ} {xs w : List ℕ} → MetAsks P xs w → Met P xs w w 0
unfolding count below filter
begin {P} {xs} {w} p =
    record {
      at_most = omega arith;
      only = only_none (10 * length xs + 2 + P) P w;
      marks = p.unmet;
      once = λ v h. omega arith;
    }

module _ {P : ℕ} {xs w₀ w : List ℕ} {c : ℕ} (p : MetAsks P xs w₀) (m : Met P xs w₀ w c) where
  -- the first member of the corner's group
  member_row : c < length xs → get_or w (9 * length xs + 2 + P + c) 0 ≡ leader_of (joined_at (faces_of xs)) (length xs) c
  member_row h = kept_at m.only {b = 9 * length xs + 2 + P} {m = length xs} (before (omega arith)) c h ∙ p.led.each c h

  -- the bounds of this turn
  pub turn : c < length xs → Turn P xs w c
  turn h =
      let l = m.only.long in
      record {
        room = omega (arith, p.fit);
        point = p.inside c h;
        member = rw (member_row h) (leader_of_is (joined_at (faces_of xs)) (length xs) (joined_turns (faces_of xs)) c h).0;
        few = p.few;
      }

  module _ (h : c < length xs) where
    -- a corner that is noted as its own first member stands first
    leads_row : eqb (get_or w (9 * length xs + 2 + P + c) 0) c ≡ leads (joined_at (faces_of xs)) (length xs) c
    leads_row =
        ap (λ x. eqb x c) (member_row h)
        ∙ leads_own (joined_at (faces_of xs)) (length xs) (joined_turns (faces_of xs)) c h

    -- one that is not is passed over
    pub passed : (get_or w (9 * length xs + 2 + P + c) 0 ≡ c → ⊥) → Met P xs w₀ w (c + 1)
    passed ne =
        rw add-one
        (record {
          at_most = h;
          only = m.only;
          marks = record { each = λ v k. m.marks.each v k ∙ sym (stays v) };
          once = λ v k. omega (arith, stays v, m.once v k);
        })
      where
        stays : (v : ℕ) → count (first_at xs v) (below (suc c)) ≡ count (first_at xs v) (below c)
        stays v = count_stay (first_at xs v) c (ap (λ b. eqb (get_or xs c 0) v && b) (sym leads_row ∙ ne_eqb (get_or w (9 * length xs + 2 + P + c) 0) c ne) ∙ and-false (eqb (get_or xs c 0) v))

    module _ (e : get_or w (9 * length xs + 2 + P + c) 0 ≡ c) where
      -- one group more is met at its point
      more : count (first_at xs (get_or xs c 0)) (below (suc c)) ≡ suc (count (first_at xs (get_or xs c 0)) (below c))
      more =
          count_next (first_at xs (get_or xs c 0)) c
          (subst T (sym (ap (λ b. b && leads (joined_at (faces_of xs)) (length xs) c) (eq-eqb (get_or xs c 0) (get_or xs c 0) refl) ∙ sym leads_row ∙ eq-eqb (get_or w (9 * length xs + 2 + P + c) 0) c e)) tt)

      -- and none at another
      no_more : (v : ℕ) → (get_or xs c 0 ≡ v → ⊥) → count (first_at xs v) (below (suc c)) ≡ count (first_at xs v) (below c)
      no_more v ne = count_stay (first_at xs v) c (rw (ne_eqb (get_or xs c 0) v ne))

      -- a point that has a mark has two groups
      pub again : (get_or w (10 * length xs + 2 + P + get_or xs c 0) 0 ≡ 0 → ⊥) → false ≡ one_each xs
      again marked =
          two_met xs p.whole c h
          (omega (arith, more, count_mono (first_at xs (get_or xs c 0)) (suc c) (length xs) h, m.marks.each (get_or xs c 0) (p.inside c h)))

      -- a point that has none is marked
      pub marked : get_or w (10 * length xs + 2 + P + get_or xs c 0) 0 ≡ 0 → Met P xs w₀ (set w (10 * length xs + 2 + P + get_or xs c 0) 1) (c + 1)
      marked z =
          let l = m.only.long in
          let k = p.inside c h in
          let none : count (first_at xs (get_or xs c 0)) (below c) ≡ 0 = sym (m.marks.each (get_or xs c 0) k) ∙ z in
          rw add-one
          (record {
            at_most = h;
            only = only_both m.only (only_set w (10 * length xs + 2 + P + get_or xs c 0) 1 (omega arith) (omega arith));
            marks = holds_set (get_or xs c 0) 1 (omega (arith, p.fit)) k (omega (arith, more)) (λ v b ne. sym (no_more v ne)) m.marks;
            once = λ v b. go none v b (ℕ_discrete (get_or xs c 0) v);
          })
        where
          go : count (first_at xs (get_or xs c 0)) (below c) ≡ 0 → (v : ℕ) → v < P → Dec (get_or xs c 0 ≡ v) → count (first_at xs v) (below (suc c)) ≤ 1
          go none v b (yes q) = subst (λ u. count (first_at xs u) (below (suc c)) ≤ 1) q (omega (arith, more))
          go none v b (no q) = omega (arith, no_more v q, m.once v b)

  -- behind the last corner no point has two groups
  pub done : length xs ≤ c → true ≡ one_each xs
  done l =
      let e : c ≡ length xs = omega (arith, m.at_most) in
      all_met xs p.whole
      (λ v k.
      let i = mem_index 0 v xs k in
      subst (λ n. count (first_at xs v) (below n) ≤ 1) e (m.once v (omega (arith, p.inside i.0 i.1, i.2))))
