-- `resolve_nonmanifold_edges::mark_others` meets its contract: after k entries, their faces but for the two are marked. Assumes nothing.
use mathlib.Core.Path.{◌≡◌, sym, ◌∙◌}
use mathlib.Core.Bool.{Bool, true, false, not, ◌||◌}
use mathlib.Core.List.{List}
use Prim.Native.Nat.{ℕ, ◌+◌, ◌/◌, ◌<◌}
use lib.Dec.{eqb}
use lib.ListN.{get_or, set}
use Rattle.rows.specs.Region.{part}
use Rattle.rank.specs.Ranks.{faces_in}
use Rattle.marking.specs.Marking.{EntriesAsks}
use Rattle.marking.proofs.Adding.{Added, begin, more_faces, skips, adds, done}
use Rattle.resolve_nonmanifold_edges.proofs.Losing.{lost_none, lost_other, lost_kept, lost_here}
use Rattle.resolve_nonmanifold_edges.proofs.mark_others.Invariants.{lost}
use Rattle.resolve_nonmanifold_edges.proofs.mark_others.Goals as goal
use Rattle.resolve_nonmanifold_edges.proofs.mark_others.Goals.{else-loses, then-loses}

-- the face of entry k
abbrev face_at : List ℕ → ℕ → ℕ → ℕ
face_at w from k = get_or w (from + k) 0 / 3

module _ (one two : ℕ) {w₀ : List ℕ} {from len marks F : ℕ} {w : List ℕ} {k : ℕ} (p : EntriesAsks w₀ from len marks F) (v : Added (lost w₀ from one two) w₀ len marks F w k) (h : k < len) where
  -- it is kept
  keeps : {b : Bool} → b ≡ not (eqb (face_at w from k) one || eqb (face_at w from k) two) → b ≡ false → Added (lost w₀ from one two) w₀ len marks F w (k + 1)
  keeps e t = skips (lost w₀ from one two) p v h (λ i. rw (more_faces (lost w₀ from one two) p v h) (lost_kept (faces_in (part w₀ from k)) (face_at w from k) one two (sym e ∙ t) i))

  -- it is lost
  loses : {b : Bool} → b ≡ not (eqb (face_at w from k) one || eqb (face_at w from k) two) → b ≡ true → Added (lost w₀ from one two) w₀ len marks F (set w (marks + face_at w from k) 1) (k + 1)
  loses e t =
      adds (lost w₀ from one two) p v h
      (rw (more_faces (lost w₀ from one two) p v h) (lost_here (faces_in (part w₀ from k)) (face_at w from k) one two (sym e ∙ t)))
      (λ i n. rw (more_faces (lost w₀ from one two) p v h) (lost_other (faces_in (part w₀ from k)) (face_at w from k) one two i n))

pub loop-k-init : goal.loop-k-init
loop-k-init c = begin _ c.requires (lost_none _ _)

pub loop-k-preserved : goal.loop-k-preserved
loop-k-preserved c = let a = c.before.before.before.before in
    let s = a.before.before in
    let h = c.loop-k-test.true in
    elim c.if-loses.branch [ then-loses w ↦ rw w.work-is (loses s.args.one s.args.two s.requires a.loop-k.invariant h c.loses.ensures w.if-loses.true) | else-loses w ↦ rw w.work-is (keeps s.args.one s.args.two s.requires a.loop-k.invariant h c.loses.ensures w.if-loses.false) ]

pub returns : goal.returns
returns c = done _ c.requires c.loop-k.invariant c.loop-k-test.false
