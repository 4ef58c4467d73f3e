-- The first half of pass 4 only exchanges corners, so its faces are traced. Assumes nothing.
use mathlib.Core.Path.{◌≡◌, refl, ap, ◌∙◌}
use mathlib.Core.Logic.{◌⊎◌, inl, inr}
use mathlib.Core.Bool.{Bool, true, false, not, cond}
use mathlib.Core.List.{List, [], ◌∷◌}
use Prim.Native.Nat.{ℕ, zero, suc, ◌<◌}
use native.Mathlib.Omega.{arith}
use native.Mathlib.Decide.{ℕ_discrete, dec_lt}
use lib.ListN.{length, get_or, set, length-set, replicate}
use lib.Seq.{get_or-set_same, get_or-set_other, set_out}
use lib.Dec.{eqb}
use Rattle.rules.specs.Lists.{through, below, filter}
use Rattle.rules.specs.Mesh.{Point, Face, face, exchanged}
use Rattle.rules.specs.Steps.{Step, steps, walks, opposite, users, edge}
use Rattle.rules.specs.Pass4.{Walk, Oriented, remark, visit, meet, across, popped, run, started, component, closed, begin, oriented}
use Rattle.rule_laws.proofs.Lists.{through_keeps}
use Rattle.rule_laws.proofs.Demand.{Traced, Lies, positions}
use Rattle.rule_laws.proofs.Tracing.{in_place}

-- the same face, or the same with corners 1 and 2 exchanged
abbrev pub OrExchanged : Face → Face → Type 0
OrExchanged f g = (g ≡ f) ⊎ (g ≡ exchanged f)

-- an exchange more
again : (f g : Face) → OrExchanged f g → OrExchanged f (exchanged g)
unfolding exchanged
again f g (inl e) = inr (ap exchanged e)
again f g (inr e) = inl (ap exchanged e)

-- the same faces, some of them exchanged
abbrev pub Turned : List Face → List Face → Type 0
Turned fs gs = (length gs ≡ length fs) × ((i : ℕ) → OrExchanged (face fs i) (face gs i))

-- one face more exchanged
turned_set : (fs gs : List Face) (n : ℕ) → Turned fs gs → Turned fs (set gs n (exchanged (face gs n)))
unfolding face
turned_set fs gs n t = (length-set gs n (exchanged (face gs n)) ∙ t.0, λ i. at i (ℕ_discrete i n) (dec_lt n (length gs)))
  where
    at : (i : ℕ) → Dec (i ≡ n) → Dec (n < length gs) → OrExchanged (face fs i) (face (set gs n (exchanged (face gs n))) i)
    at i (no ne) d = rw (get_or-set_other gs n i (exchanged (face gs n)) (record { a = 0; b = 0; c = 0; origin = 0 }) ne) (t.1 i)
    at i (yes e) (yes h) = rw (e, get_or-set_same gs n (exchanged (face gs n)) (record { a = 0; b = 0; c = 0; origin = 0 }) h) (again (face fs n) (face gs n) (t.1 n))
    at i (yes e) (no h) = rw (set_out gs n (exchanged (face gs n)) (omega arith)) (t.1 i)

module _ (fs : List Face) where
  -- the faces of the walk are those before it, some of them exchanged
  abbrev Kept : Walk → Type 0
  Kept w = Turned fs w.faces

  -- a visit exchanges one face or none
  visit_kept : (agrees : Bool) (n : ℕ) (w : Walk) → Kept w → Kept (visit agrees n w)
  unfolding visit
  visit_kept true n w t = t
  visit_kept false n w t = turned_set fs w.faces n t

  -- either of two walks
  cond_kept : (b : Bool) (v w : Walk) → Kept v → Kept w → Kept (cond b v w)
  cond_kept true v w p q = p
  cond_kept false v w p q = q

  -- meeting a neighbour
  meet_kept : (s : Step) (w : Walk) (n : ℕ) → Kept w → Kept (meet s w n)
  unfolding meet remark
  meet_kept s w n t =
      let agrees = walks (face w.faces n) (opposite s) in
      cond_kept (get_or w.visited n false) (remark agrees w) (visit agrees n w) t (visit_kept agrees n w t)

  -- meeting all users of an edge
  across_kept : (i : ℕ) (w : Walk) (s : Step) → Kept w → Kept (across i w s)
  unfolding across
  across_kept i w s t =
      through_keeps Kept (meet s) (λ v n. meet_kept s v n) (filter (λ n. not (eqb n i)) (users w.faces (edge s))) w t

  -- all faces from the stack
  run_kept : (n : ℕ) (stack : List ℕ) (w : Walk) → Kept w → Kept (run n stack w)
  unfolding run popped
  run_kept zero stack w t = t
  run_kept (suc n) [] w t = t
  run_kept (suc n) (i ∷ rest) w t =
      let after = through (across i) (popped rest w) (steps (face w.faces i)) in
      run_kept n after.stack after
      (through_keeps Kept (across i) (λ v s. across_kept i v s) (steps (face w.faces i)) (popped rest w) t)

  -- a component begun at i
  begin_kept : (o : Oriented) (i : ℕ) → Kept o.walk → Kept (begin o i).walk
  unfolding begin closed component started
  begin_kept o i t = go (get_or o.walk.visited i false) (run_kept (length o.walk.faces) (i ∷ []) (started i o.walk) t)
    where
      go : (b : Bool) → Kept (component o.walk i) → Kept (cond b o (closed o.marks (component o.walk i))).walk
      go true r = t
      go false r = r

-- the faces after the walk are the faces before, some of them exchanged
pub oriented_turned : (fs : List Face) → Turned fs (oriented fs).walk.faces
unfolding oriented
oriented_turned fs =
    through_keeps (λ o. Kept fs o.walk) begin (λ o i. begin_kept fs o i) (below (length fs))
    (record {
      walk = record { faces = fs; visited = replicate (length fs) false; stack = []; exchanges = 0; mark = false };
      marks = 0;
    })
    (refl, λ i. inl refl)

-- a face that may be turned lies where it lay
pub turned_lies : (ps : List Point) (f g : Face) → OrExchanged f g → Lies ps f ps g
turned_lies ps f g (inl e) = inl (ap (positions ps) e)
turned_lies ps f g (inr e) = inr (ap (positions ps) e)

-- and keeps its origin
pub turned_origin : (f g : Face) → OrExchanged f g → g.origin ≡ f.origin
unfolding exchanged
turned_origin f g (inl e) = ap (λ h. h.origin) e
turned_origin f g (inr e) = ap (λ h. h.origin) e

-- turning is traced
pub turned_traced : (ps : List Point) (fs : List Face) (ps' : List Point) (gs hs : List Face) → Turned gs hs → Traced ps fs ps' gs → Traced ps fs ps' hs
turned_traced ps fs ps' gs hs w t =
    in_place ps fs ps' gs t ps' hs w.0 (λ i h. turned_origin (face gs i) (face hs i) (w.1 i)) (λ i h. turned_lies ps' (face gs i) (face hs i) (w.1 i))
