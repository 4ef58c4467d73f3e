-- What parents that unite the joined things say of the groups: who leads, the labels, and the first members. Assumes nothing.
use mathlib.Core.Path.{◌≡◌, refl, sym, ap, ◌∙◌}
use mathlib.Core.Bool.{Bool, false}
use mathlib.Core.List.{List, map, Memᴰ}
use Prim.Native.Nat.{ℕ, ◌+◌, ◌≤◌, ◌<◌}
use native.Mathlib.Omega.{arith}
use lib.Dec.{T}
use lib.ListN.{length, length-map}
use lib.Seq.{ext_get_or}
use Rattle.rows.specs.Region.{part, Holds}
use Rattle.rows.proofs.Regions.{length_part, get_d_part}
use Rattle.rules.specs.Lists.{below, filter, count}
use Rattle.rules.specs.Groups.{group, leads}
use Rattle.rule_laws.proofs.Lists.{length_below, get_or_map_in}
use Rattle.rule_laws.proofs.Rising.{get_or_below}
use Rattle.rule_laws.proofs.Members.{mem_at, mem_left, mem_filter, some_length}
use Rattle.rule_laws.proofs.Groups.{Chain, Chain.stay, Chain.link, chain_end, group_chain, group_within}
use Rattle.rule_laws.proofs.Leaders.{label_of, leads_of, group_sym, follows, one_leader, label_is}
use Rattle.flood.specs.Uniting.{Turns, United}
use Rattle.flood.specs.Answers.{leader_of}
use Rattle.flood.proofs.Forests.{root_top, root_low}

-- a region that holds f of each index, as a list
pub part_map : (w : List ℕ) (a n : ℕ) (f : ℕ → ℕ) → a + n ≤ length w → Holds a n f w → part w a n ≡ map f (below n)
part_map w a n f h p =
    let l = length_part w a n h in
    let b = length_below n in
    ext_get_or 0 (part w a n) (map f (below n)) (l ∙ sym (length-map (below n) f ∙ b))
    (λ i k. let j : i < n = omega arith in get_d_part w a n i j ∙ p.each i j ∙ sym (get_or_map_in f (below n) i 0 0 (omega arith) ∙ ap f (get_or_below n i j)))

-- who leads a group with x is the leader of x: two leaders of one thing are one
pub leader_is : (joined : ℕ → ℕ → Bool) (n : ℕ) → Turns joined → (x l : ℕ) → x < n → l < n → T (leads joined n l) → Memᴰ x (group joined n l) → leader_of joined n x ≡ l
unfolding leader_of
leader_is joined n t x l hx hl tl m =
    let some = some_length l (filter (leads joined n) (group joined n x)) (mem_filter (leads joined n) l (group joined n x) (group_sym joined n t.each l x hl m) tl) in
    let u = mem_left (leads joined n) (leader_of joined n x) (group joined n x) (mem_at (filter (leads joined n) (group joined n x)) 0 x some) in
    let hu = group_within joined n x (leader_of joined n x) hx u.0 in
    one_leader joined n t.each (leader_of joined n x) l x hu hl u.1 tl (group_sym joined n t.each x (leader_of joined n x) hx u.0) m

module _ {joined : ℕ → ℕ → Bool} {labels n : ℕ} {w : List ℕ} (t : Turns joined) (u : United joined labels n w) where
  -- things of one group have one root
  one_root : {x y : ℕ} → x < n → Chain joined n x y → u.root x ≡ u.root y
  one_root h stay = refl
  one_root h (link {j = j} {k = k} c s b) = one_root h c ∙ u.same j k (chain_end h c) b s

  -- a thing that is its own root leads
  pub root_leads : (i : ℕ) → i < n → u.root i ≡ i → T (leads joined n i)
  root_leads i h e =
      leads_of joined n i
      (λ y m. omega (arith, root_low u.forest y (group_within joined n i y h m), one_root h (group_chain joined n i y m)))

  module _ (i : ℕ) (h : i < n) where
    -- the root of i is a thing, i is of its group, and it leads
    root_in : u.root i < n
    root_in = omega (arith, root_low u.forest i h)

    of_root : Memᴰ i (group joined n (u.root i))
    of_root = group_sym joined n t.each i (u.root i) h (u.within.each i h)

    top_leads : T (leads joined n (u.root i))
    top_leads = root_leads (u.root i) root_in (u.forest.fixed (u.root i) root_in (root_top u.forest i h))

    -- so it is the first member of i's group
    pub leader_root : leader_of joined n i ≡ u.root i
    leader_root = leader_is joined n t i (u.root i) h root_in top_leads of_root

    -- and the label of i is the number of leaders before it
    pub label_root : label_of joined n i ≡ count (leads joined n) (below (u.root i))
    label_root = label_is joined n t.each i (u.root i) root_in top_leads of_root

    -- a thing whose root is another does not lead
    pub child_follows : u.root i < i → leads joined n i ≡ false
    child_follows l = follows joined n t.each (u.root i) i l root_in of_root
