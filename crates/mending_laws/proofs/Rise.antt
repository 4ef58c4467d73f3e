-- Origins rise strictly through every pass, so under any options. Assumes nothing.
use mathlib.Core.Path.{◌≡◌, refl, sym, subst}
use mathlib.Core.Bool.{Bool, true, false}
use mathlib.Core.List.{List, [], ◌∷◌}
use Prim.Native.Nat.{ℕ, suc, ◌<◌}
use native.Mathlib.Omega.{arith}
use lib.Ieee.{Float}
use lib.ListN.{length}
use Rattle.rules.specs.Mesh.{Point, Face, faces_from}
use Rattle.rules.specs.State.{State, Count, start, counted, with_faces, dropped, duplicates, crowded_edges, dropped_at_edges}
use Rattle.rules.specs.Pass1.{pass1, marked1}
use Rattle.rules.specs.Pass2.{pass2, marked2}
use Rattle.rules.specs.Pass3.{pass3, marked3, crowded}
use Rattle.rules.specs.Pass4.{pass4, oriented, marked4}
use Rattle.rules.specs.Pass5.{pass5}
use Rattle.rules.specs.Pass6.{pass6}
use Rattle.rules.specs.Repair.{bit, optional, passes, repaired}
use Rattle.rule_laws.proofs.Rising.{All, all_leave, Up}
use Rattle.rule_laws.proofs.Origins.{origins, oriented_origins, pass5_origins, pass6_origins}
use Rattle.mending_laws.proofs.Dropping.{leave_rise, low_origins}

-- the input's origins are its places
pub from_rise : (k : ℕ) (xs : List ℕ) → Up k (origins (faces_from k xs))
unfolding faces_from
from_rise k [] = tt
from_rise k (a ∷ []) = tt
from_rise k (a ∷ b ∷ []) = tt
from_rise k (a ∷ b ∷ c ∷ xs) = (omega arith, from_rise (suc k) xs)

-- ---- the passes

-- origins rise, and name input faces
pub record Rises (F : ℕ) (m : State) : Type 0 where
  pub up : Up 0 (origins m.faces)
  pub low : All (λ f. f.origin < F) m.faces

-- a mesh with the same origins
same_rises : (F : ℕ) (m : State) (gs : List Face) (k : State) → k.faces ≡ gs → origins gs ≡ origins m.faces → Rises F m → Rises F k
same_rises F m gs k q e h =
    record {
      up = subst (λ l. Up 0 (origins l)) (sym q) (subst (Up 0) (sym e) h.up);
      low = subst (All (λ f. f.origin < F)) (sym q) (low_origins F m.faces gs e h.low);
    }

-- faces that leave
dropped_rises : (F : ℕ) (c : Count) (marked : ℕ → Bool) (m : State) → Rises F m → Rises F (dropped c marked m)
unfolding dropped counted with_faces
dropped_rises F c marked m h = record { up = leave_rise 0 marked m.faces h.up; low = all_leave (λ f. f.origin < F) marked m.faces h.low }

-- a count
counted_rises : (F : ℕ) (c : Count) (n : ℕ) (m : State) → Rises F m → Rises F (counted c n m)
unfolding counted
counted_rises F c n m h = record { up = h.up; low = h.low }

-- pass 1
pub pass1_rises : (F : ℕ) (s : Float) (m : State) → Rises F m → Rises F (pass1 s m)
unfolding pass1 counted with_faces
pass1_rises F s m h =
    record { up = leave_rise 0 (marked1 s m.points m.faces) m.faces h.up; low = all_leave (λ f. f.origin < F) (marked1 s m.points m.faces) m.faces h.low }

-- pass 2
pub pass2_rises : (F : ℕ) (m : State) → Rises F m → Rises F (pass2 m)
unfolding pass2
pass2_rises F m h = dropped_rises F duplicates (marked2 m.faces) m h

-- pass 3
pub pass3_rises : (F : ℕ) (m : State) → Rises F m → Rises F (pass3 m)
unfolding pass3
pass3_rises F m h =
    dropped_rises F dropped_at_edges (marked3 m.points m.faces) (counted crowded_edges (length (crowded (length m.points) m.faces)) m)
    (counted_rises F crowded_edges (length (crowded (length m.points) m.faces)) m h)

-- the faces after the first half of pass 4
pub oriented_rises : (F : ℕ) (m : State) → Rises F m → Rises F (with_faces (oriented m.faces).walk.faces m)
oriented_rises F m h =
    same_rises F m (oriented m.faces).walk.faces (with_faces (oriented m.faces).walk.faces m) (unfold with_faces in refl)
    (oriented_origins m.faces) h

-- pass 4
pub pass4_rises : (F : ℕ) (m : State) → Rises F m → Rises F (pass4 m)
pass4_rises F m h =
    let o = oriented_rises F m h in
    let gs = (oriented m.faces).walk.faces in
    let up : Up 0 (origins gs) = unfold with_faces in o.up in
    let low : All (λ f. f.origin < F) gs = unfold with_faces in o.low in
    unfold pass4 dropped counted with_faces in
    (record { up = leave_rise 0 (marked4 m.points gs) gs up; low = all_leave (λ f. f.origin < F) (marked4 m.points gs) gs low })

-- pass 5
pub pass5_rises : (F : ℕ) (m : State) → Rises F m → Rises F (pass5 m)
pass5_rises F m h = same_rises F m (pass5 m).faces (pass5 m) refl (pass5_origins m) h

-- pass 6
pub pass6_rises : (F : ℕ) (m : State) → Rises F m → Rises F (pass6 m)
pass6_rises F m h = same_rises F m (pass6 m).faces (pass6 m) refl (pass6_origins m) h

-- a pass by its option
optional_rises : (F : ℕ) (b : Bool) (pass : State → State) → ((m : State) → Rises F m → Rises F (pass m)) → (m : State) → Rises F m → Rises F (optional b pass m)
unfolding optional
optional_rises F true pass h m r = h m r
optional_rises F false pass h m r = r

-- whatever the options are
pub repaired_rises : (F : ℕ) (s : Float) (options : ℕ) (ps : List Point) (fs : List Face) → Up 0 (origins fs) → All (λ f. f.origin < F) fs → Rises F (repaired s options ps fs)
unfolding repaired passes start
repaired_rises F s options ps fs up low =
    optional_rises F (bit 5 options) pass6 (pass6_rises F) _
    (optional_rises F (bit 3 options) pass5 (pass5_rises F) _
    (optional_rises F (bit 4 options) pass4 (pass4_rises F) _
    (optional_rises F (bit 2 options) pass3 (pass3_rises F) _
    (optional_rises F (bit 1 options) pass2 (pass2_rises F) _
    (optional_rises F (bit 0 options) (pass1 s) (pass1_rises F s) (start ps fs) (record { up = up; low = low }))))))
