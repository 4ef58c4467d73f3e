-- `resolve_directed_collisions::mark_rest` meets its contract: after k entries, their faces without one `one` are marked. Assumes nothing.
use mathlib.Core.Path.{◌≡◌, sym, ◌∙◌}
use mathlib.Core.Bool.{Bool, true, false, not, ◌&&◌}
use mathlib.Core.List.{List}
use Prim.Native.Nat.{ℕ, ◌+◌, ◌/◌, ◌<◌}
use lib.Dec.{eqb}
use lib.ListN.{get_or, set}
use Rattle.rows.specs.Region.{part}
use Rattle.rules.specs.Lists.{has}
use Rattle.rank.specs.Ranks.{faces_in}
use Rattle.marking.specs.Marking.{EntriesAsks}
use Rattle.marking.proofs.Adding.{begin, more_faces, skips, adds, done}
use Rattle.resolve_directed_collisions.proofs.Losing.{lost_none, none_seen, lost_first, seen_first, lost_here, lost_other, seen_rest}
use Rattle.resolve_directed_collisions.proofs.mark_rest.Invariants.{lost, Seen}
use Rattle.resolve_directed_collisions.proofs.mark_rest.Goals as goal
use Rattle.resolve_directed_collisions.proofs.mark_rest.Goals.{else-stays, then-stays}

-- the face of entry k
abbrev face_at : List ℕ → ℕ → ℕ → ℕ
face_at w from k = get_or w (from + k) 0 / 3

module _ {w₀ : List ℕ} {from len marks F one : ℕ} {w : List ℕ} {seen : Bool} {k : ℕ} (p : EntriesAsks w₀ from len marks F) (v : Seen w₀ from len marks F one w seen k) (h : k < len) {b : Bool} (e : b ≡ (not seen && eqb one (face_at w from k))) where
  -- whether the entry is the first of `one`
  first_is : (not (has one (faces_in (part w₀ from k))) && eqb one (face_at w from k)) ≡ b
  first_is = rw (← v.seen_is) (sym e)

  -- it is
  passes : b ≡ true → Seen w₀ from len marks F one w true (k + 1)
  passes t =
      let m = more_faces (lost w₀ from one) p v.added h in
      record {
        added = skips (lost w₀ from one) p v.added h (λ i. rw m (lost_first one (faces_in (part w₀ from k)) (face_at w from k) (first_is ∙ t) i));
        seen_is = rw m (seen_first one (faces_in (part w₀ from k)) (face_at w from k) (first_is ∙ t));
      }

  -- it is not
  loses : b ≡ false → Seen w₀ from len marks F one (set w (marks + face_at w from k) 1) seen (k + 1)
  loses t =
      let m = more_faces (lost w₀ from one) p v.added h in
      record {
        added = adds (lost w₀ from one) p v.added h
            (rw m (lost_here one (faces_in (part w₀ from k)) (face_at w from k) (first_is ∙ t)))
            (λ i n. rw m (lost_other one (faces_in (part w₀ from k)) (face_at w from k) (first_is ∙ t) i n));
        seen_is = v.seen_is ∙ rw m (seen_rest one (faces_in (part w₀ from k)) (face_at w from k) (first_is ∙ t));
      }

pub loop-k-init : goal.loop-k-init
loop-k-init c = record { added = begin _ c.requires (lost_none _); seen_is = none_seen _ }

pub loop-k-preserved : goal.loop-k-preserved
loop-k-preserved c = let p = c.requires in
    let h = c.loop-k-test.true in
    elim c.if-stays.branch [ then-stays w ↦ rw (w.work-is, w.seen-is) (passes p c.loop-k.invariant h c.stays.ensures w.if-stays.true) | else-stays w ↦ rw (w.work-is, w.seen-is) (loses p c.loop-k.invariant h c.stays.ensures w.if-stays.false) ]

pub returns : goal.returns
returns c = done _ c.requires c.loop-k.invariant.added c.loop-k-test.false
