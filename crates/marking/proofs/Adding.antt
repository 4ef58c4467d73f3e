-- The marks of one entry more, in a loop over the entries of a run: after k of them the faces that `lost k` says are marked. Assumes nothing.
use mathlib.Core.Path.{◌≡◌, sym, ap, ◌∙◌}
use mathlib.Core.Bool.{Bool, true, false, cond}
use mathlib.Core.List.{List, [], ◌∷◌, ◌++◌, map, map-append}
use Prim.Native.Nat.{ℕ, ◌+◌, ◌/◌, ◌≤◌, ◌<◌}
use native.Mathlib.Omega.{arith}
use native.Mathlib.Numerals.{add-one}
use lib.ListN.{length, get_or, set}
use Rattle.rows.specs.Region.{part, Apart.before, Only, Holds}
use Rattle.rows.proofs.Regions.{only_none, only_both, only_set, kept_at, holds_set, part_suc}
use Rattle.marking.specs.Marking.{EntriesAsks, LostGives}

-- k entries have passed
pub record Added (lost : ℕ → ℕ → Bool) (w₀ : List ℕ) (len marks F : ℕ) (w : List ℕ) (k : ℕ) : Type 0 where
  pub most : k ≤ len
  pub only : Only marks F w₀ w
  pub added : Holds marks F (λ i. cond (lost k i) 1 (get_or w₀ (marks + i) 0)) w

-- what a turn asks
pub record Turn (w : List ℕ) (from len marks F k : ℕ) : Type 0 where
  pub here : k < len
  pub behind : from + len ≤ marks
  pub fit : marks + F ≤ length w
  pub face_in : get_or w (from + k) 0 / 3 < F

module _ (lost : ℕ → ℕ → Bool) {w₀ : List ℕ} {from len marks F : ℕ} (p : EntriesAsks w₀ from len marks F) where
  -- no entry has passed, and nothing is lost
  pub begin : ((i : ℕ) → lost 0 i ≡ false) → Added lost w₀ len marks F w₀ 0
  begin n = record { most = omega arith; only = only_none _ _ _; added = record { each = λ i h. rw (n i) } }

  module _ {w : List ℕ} {k : ℕ} (v : Added lost w₀ len marks F w k) where
    module _ (h : k < len) where
      -- the entry is as it was
      pub same_entry : get_or w (from + k) 0 ≡ get_or w₀ (from + k) 0
      same_entry = kept_at v.only (before p.behind) k h

      -- a turn may be made
      pub turn : Turn w from len marks F k
      turn =
          let l = v.only.long in
          record { here = h; behind = p.behind; fit = omega (arith, p.fit); face_in = rw same_entry (p.faces k h) }

      -- the faces of one entry more
      pub more_faces : map (λ id. id / 3) (part w₀ from (k + 1)) ≡ map (λ id. id / 3) (part w₀ from k) ++ (get_or w (from + k) 0 / 3 ∷ [])
      more_faces = rw (add-one k, part_suc w₀ from k (omega (arith, p.behind, p.fit)), same_entry) (map-append (λ id. id / 3) (part w₀ from k) (get_or w₀ (from + k) 0 ∷ []))

      -- it loses nothing
      pub skips : ((i : ℕ) → lost (k + 1) i ≡ lost k i) → Added lost w₀ len marks F w (k + 1)
      skips e = record { most = omega arith; only = v.only; added = record { each = λ i q. v.added.each i q ∙ ap (λ (b : Bool). cond b 1 (get_or w₀ (marks + i) 0)) (sym (e i)) } }

      -- it loses its face
      pub adds : lost (k + 1) (get_or w (from + k) 0 / 3) ≡ true → ((i : ℕ) → (get_or w (from + k) 0 / 3 ≡ i → ⊥) → lost (k + 1) i ≡ lost k i) → Added lost w₀ len marks F (set w (marks + get_or w (from + k) 0 / 3) 1) (k + 1)
      adds y e =
          let t = turn in
          record {
            most = omega arith;
            only = only_both v.only (only_set w (marks + get_or w (from + k) 0 / 3) 1 (omega arith) (omega arith));
            added = holds_set (get_or w (from + k) 0 / 3) 1 (omega arith) (omega arith)
                (ap (λ (b : Bool). cond b 1 (get_or w₀ (marks + get_or w (from + k) 0 / 3) 0)) (sym y))
                (λ i q n. ap (λ (b : Bool). cond b 1 (get_or w₀ (marks + i) 0)) (sym (e i n)))
                v.added;
          }

    -- all have
    pub done : len ≤ k → LostGives (lost len) w₀ marks F w
    done h =
        let e : k ≡ len = omega (arith, v.most) in
        record { only = v.only; added = rw e at v.added }
