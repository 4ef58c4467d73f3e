-- The corners gone through in face order: one that is in no group of an earlier leader leads, and its group has none that was flagged. Assumes nothing.
use mathlib.Core.Path.{◌≡◌, refl, sym, ap, ◌∙◌, subst}
use mathlib.Core.Bool.{Bool, true, false, ◌&&◌, ◌||◌}
use mathlib.Core.List.{List, Memᴰ}
use Prim.Native.Nat.{ℕ, suc, ◌+◌, ◌*◌, ◌/◌, ◌≤◌, ◌<◌}
use native.Mathlib.Omega.{arith}
use native.Mathlib.Decide.{ℕ_discrete, dec_lt}
use borrow.Author.Tests.{eq-eqb, ne_eqb, lt-ltb, le-ltb}
use lib.Dec.{T, eqb, ltb, eqb→eq, eqb_refl}
use lib.Ieee.Fits.{and_i}
use lib.Ieee.Bits.{is_true}
use lib.ListN.{length}
use Rattle.rules.specs.Lists.{below, has}
use Rattle.rules.specs.Mesh.{Face, face}
use Rattle.rules.specs.Groups.{group, leads}
use Rattle.rules.specs.Pass5.{share}
use Rattle.rule_laws.proofs.Tests.{and_elim, both_ways}
use Rattle.rule_laws.proofs.Members.{any_intro, any_mem, mem_below, below_mem, mem_has, has_mem}
use Rattle.rule_laws.proofs.Groups.{Chain, Chain.stay, Chain.link, covered, group_chain, group_self, group_closed}
use Rattle.rule_laws.proofs.Leaders.{leads_le, group_sym, group_meet, follows}
use Rattle.rule_laws.proofs.Fans.{share_intro}
use Rattle.splitting.specs.Corners.{corner_at, joined_at}
use Rattle.splitting.proofs.Entries.{joined_turns, one_point}
use Rattle.fan_laws.specs.Opening.{met, opens, single, is_in_group}
use Rattle.fan_laws.proofs.Takers.{another}
use Rattle.fan_laws.proofs.Weights.{in_group, group_in, group_alone}
use Rattle.searched_splits.specs.Splits.{one, same_group, done_to, open_to}
use Rattle.searched_splits.proofs.Reading.{any_last}

module _ (fs : List Face) where
  abbrev all : ℕ
  all = 3 * length fs

  -- corners of one point whose faces share another are joined
  joined_of : (y z : ℕ) → corner_at fs y ≡ corner_at fs z → T (share (corner_at fs y) (face fs (y / 3)) (face fs (z / 3))) → T (joined_at fs y z)
  unfolding joined_at
  joined_of y z e s = and_i (eqb (corner_at fs y) (corner_at fs z)) (share (corner_at fs y) (face fs (y / 3)) (face fs (z / 3))) (rw (eq-eqb (corner_at fs y) (corner_at fs z) e) tt) s

  -- ---- what is flagged before corner E

  -- in the group of an earlier leader
  done_by : (E id : ℕ) → T (done_to fs E id) → (y : ℕ) × (y < E) × T (leads (joined_at fs) all y) × Memᴰ id (group (joined_at fs) all y)
  unfolding done_to same_group
  done_by E id t =
      let w = any_mem (λ y. leads (joined_at fs) all y && has id (group (joined_at fs) all y)) (below E) t in
      let a = and_elim (leads (joined_at fs) all w.0) (has id (group (joined_at fs) all w.0)) w.2 in
      (w.0, below_mem w.0 E w.1, a.0, has_mem id (group (joined_at fs) all w.0) a.1)

  -- and the other way
  by_done : (E id y : ℕ) → y < E → T (leads (joined_at fs) all y) → Memᴰ id (group (joined_at fs) all y) → T (done_to fs E id)
  unfolding done_to same_group
  by_done E id y h t m =
      any_intro (λ y. leads (joined_at fs) all y && has id (group (joined_at fs) all y)) y (below E) (mem_below y E h) (and_i (leads (joined_at fs) all y) (has id (group (joined_at fs) all y)) t (mem_has id (group (joined_at fs) all y) m))

  -- one corner more
  done_next : (E id : ℕ) → done_to fs (suc E) id ≡ (done_to fs E id || (leads (joined_at fs) all E && same_group fs E id))
  unfolding done_to
  done_next E id = any_last (λ y. leads (joined_at fs) all y && same_group fs y id) E

  -- all are, in the end
  pub done_all : (id : ℕ) → id < all → T (done_to fs all id)
  done_all id h = let c = covered (joined_at fs) all (joined_turns fs) id h in by_done all id c.0 c.1 c.2 c.3

  module _ (E : ℕ) (hE : E < all) where
    -- a flagged corner does not lead
    done_follows : T (done_to fs E E) → leads (joined_at fs) all E ≡ false
    done_follows t = let a = done_by E E t in follows (joined_at fs) all (joined_turns fs) a.0 E a.1 (omega (arith, a.1)) a.3

    -- one that is not flagged leads
    fresh_leads : done_to fs E E ≡ false → T (leads (joined_at fs) all E)
    fresh_leads e =
        let c = covered (joined_at fs) all (joined_turns fs) E hE in
        go c.0 c.2 c.3 (leads_le (joined_at fs) all c.0 E c.2 c.3) (dec_lt c.0 E)
      where
        go : (y : ℕ) → T (leads (joined_at fs) all y) → Memᴰ E (group (joined_at fs) all y) → y ≤ E → Dec (y < E) → T (leads (joined_at fs) all E)
        go y t m l (yes b) = absurd (subst T e (by_done E E y b t m))
        go y t m l (no b) = let q : y ≡ E = omega arith in subst (λ k. T (leads (joined_at fs) all k)) q t

    -- where it is flagged nothing changes
    pub done_same : T (done_to fs E E) → (id : ℕ) → done_to fs (suc E) id ≡ done_to fs E id
    done_same t id = done_next E id ∙ ap (λ (b : Bool). done_to fs E id || (b && same_group fs E id)) (done_follows t) ∙ last (done_to fs E id)
      where
        last : (b : Bool) → (b || false) ≡ b
        last true = refl
        last false = refl

    -- where it is not, its group is added, of which none was flagged
    pub done_more : done_to fs E E ≡ false → (id : ℕ) → one (done_to fs (suc E) id) ≡ one (done_to fs E id) + one (same_group fs E id)
    done_more e id =
        ap one (done_next E id ∙ ap (λ (b : Bool). done_to fs E id || (b && same_group fs E id)) (is_true (leads (joined_at fs) all E) (fresh_leads e)))
        ∙ go (done_to fs E id) refl (same_group fs E id) refl
      where
        both : T (done_to fs E id) → T (same_group fs E id) → ⊥
        both t s =
            let a = done_by E id t in
            let m : Memᴰ id (group (joined_at fs) all E) = has_mem id (group (joined_at fs) all E) (unfold same_group in s) in
            subst T e (by_done E E a.0 a.1 a.2 (group_meet (joined_at fs) all (joined_turns fs) a.0 E id (omega (arith, a.1)) hE a.3 m))

        go : (b : Bool) → done_to fs E id ≡ b → (c : Bool) → same_group fs E id ≡ c → one (b || c) ≡ one b + one c
        go true p true r = absurd (both (subst T (sym p) tt) (subst T (sym r) tt))
        go true p false r = omega arith
        go false p true r = omega arith
        go false p false r = omega arith

    -- a flagged corner opens no group
    pub done_shut : T (done_to fs E E) → opens fs E ≡ false
    unfolding opens
    done_shut t = rw (done_follows t) (none (met fs (corner_at fs E) E))
      where
        none : (b : Bool) → (b && false) ≡ false
        none true = refl
        none false = refl

    -- one that is not flagged opens one exactly if its point was met
    pub fresh_opens : done_to fs E E ≡ false → opens fs E ≡ met fs (corner_at fs E) E
    unfolding opens
    fresh_opens e = rw (is_true (leads (joined_at fs) all E) (fresh_leads e)) (whole (met fs (corner_at fs E) E))
      where
        whole : (b : Bool) → (b && true) ≡ b
        whole true = refl
        whole false = refl

    -- ---- those that open a group

    -- before the next corner: those before this one, and this one
    pub open_next : (id : ℕ) → one (open_to fs (suc E) id) ≡ one (open_to fs E id) + one (eqb id E && opens fs E)
    unfolding open_to
    open_next id = go (dec_lt id E) (ℕ_discrete id E)
      where
        go : Dec (id < E) → Dec (id ≡ E) → one (ltb id (suc E) && opens fs id) ≡ one (ltb id E && opens fs id) + one (eqb id E && opens fs E)
        go (yes l) d = rw (lt-ltb id (suc E) (omega arith), lt-ltb id E l, ne_eqb id E (λ e. absurd (omega arith))) (omega arith)
        go (no l) (yes e) = rw (e, lt-ltb E (suc E) (omega arith), le-ltb E E (omega arith), eq-eqb E E refl) (omega arith)
        go (no l) (no n) = rw (le-ltb id (suc E) (above n l), le-ltb id E (omega arith), ne_eqb id E n) (omega arith)
          where
            above : (id ≡ E → ⊥) → (id < E → ⊥) → suc E ≤ id
            above n l = omega arith

    -- ---- the group's corners of one face

    -- all of a group are at one point
    chain_point : {y : ℕ} → Chain (joined_at fs) all E y → corner_at fs y ≡ corner_at fs E
    chain_point stay = refl
    chain_point (link {j = j} {k = k} c t b) = sym (one_point fs j k t) ∙ chain_point c

    -- where E's face has different corners: the corner z of a face of the group is of the group exactly if it is at the same point
    pub group_corner : single (face fs (E / 3)) ≡ false → (z : ℕ) → z < all → same_group fs E z ≡ (is_in_group fs E (z / 3) && eqb (corner_at fs z) (corner_at fs E))
    unfolding same_group
    group_corner e z hz = both_ways (has z (group (joined_at fs) all E)) (is_in_group fs E (z / 3) && eqb (corner_at fs z) (corner_at fs E)) to from
      where
        to : T (has z (group (joined_at fs) all E)) → T (is_in_group fs E (z / 3) && eqb (corner_at fs z) (corner_at fs E))
        to t =
            let m = has_mem z (group (joined_at fs) all E) t in
            and_i (is_in_group fs E (z / 3)) (eqb (corner_at fs z) (corner_at fs E)) (group_in fs E z m) (rw (chain_point (group_chain (joined_at fs) all E z m)) (eqb_refl (corner_at fs E)))

        from : T (is_in_group fs E (z / 3) && eqb (corner_at fs z) (corner_at fs E)) → T (has z (group (joined_at fs) all E))
        from t =
            let a = and_elim (is_in_group fs E (z / 3)) (eqb (corner_at fs z) (corner_at fs E)) t in
            let g = in_group fs E (z / 3) hE a.0 in
            let y = g.0 in
            let cy : corner_at fs y ≡ corner_at fs E = chain_point (group_chain (joined_at fs) all E y g.3) in
            let cz : corner_at fs z ≡ corner_at fs E = eqb→eq (corner_at fs z) (corner_at fs E) a.1 in
            let o = another (face fs (z / 3)) (corner_at fs E) (several (single (face fs (z / 3))) refl y g.1 g.2 g.3) in
            let s : T (share (corner_at fs y) (face fs (y / 3)) (face fs (z / 3))) =
            subst (λ u. T (share u (face fs (y / 3)) (face fs (z / 3)))) (sym cy)
            (subst (λ k. T (share (corner_at fs E) (face fs k) (face fs (z / 3)))) (sym g.2) (share_intro (corner_at fs E) (face fs (z / 3)) (face fs (z / 3)) o.0 o.1 o.2 o.2)) in
            let j : T (joined_at fs y z) = joined_of y z (cy ∙ sym cz) s in
            mem_has z (group (joined_at fs) all E) (group_closed (joined_at fs) all E y z hE hz g.3 j)
          where
            several : (b : Bool) → single (face fs (z / 3)) ≡ b → (y : ℕ) → y < all → y / 3 ≡ z / 3 → Memᴰ y (group (joined_at fs) all E) → single (face fs (z / 3)) ≡ false
            several false q y h r m = q
            several true q y h r m =
                let s : T (single (face fs (y / 3))) = subst (λ k. T (single (face fs k))) (sym r) (subst T (sym q) tt) in
                let x = group_alone fs y E h s (group_sym (joined_at fs) all (joined_turns fs) E y hE m) in
                absurd (subst T e (subst (λ k. T (single (face fs (k / 3)))) (sym x) s))

    -- where it has three equal ones, the corner is alone
    pub group_one : T (single (face fs (E / 3))) → (z : ℕ) → same_group fs E z ≡ eqb z E
    unfolding same_group
    group_one t z =
        both_ways (has z (group (joined_at fs) all E)) (eqb z E)
        (λ s. rw (group_alone fs E z hE t (has_mem z (group (joined_at fs) all E) s)) (eqb_refl E))
        (λ s. rw (eqb→eq z E s) (mem_has E (group (joined_at fs) all E) (group_self (joined_at fs) all E hE)))
