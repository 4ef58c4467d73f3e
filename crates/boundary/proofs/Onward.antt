-- Where the boundary goes on from a vertex, as the third row has it, in the words of the rules' loops. Assumes nothing.
use mathlib.Core.Path.{◌≡◌, refl, sym, subst}
use mathlib.Core.Bool.{Bool, true, false}
use mathlib.Core.List.{List, [], ◌∷◌, map}
use Prim.Native.Nat.{ℕ, ◌<◌}
use native.Mathlib.Omega.{arith}
use borrow.Author.Tests.{lt-ltb, le-ltb}
use lib.ListN.{length, get_or}
use lib.Dec.{T, eqb, ltb, eqb→eq, eqb_refl}
use lib.Ieee.Bits.{is_true}
use Rattle.rules.specs.Lists.{filter, any}
use Rattle.rules.specs.Mesh.{Face}
use Rattle.rules.specs.Steps.{Step}
use Rattle.rules.specs.Edges.{boundary, next}
use Rattle.rule_laws.proofs.Members.{in_all, any_intro, any_mem, none_filter, mem_filter, mem_left, some_length}
use Rattle.rule_laws.proofs.Rising.{All}
use Rattle.rule_laws.proofs.Once.{Inside}
use Rattle.rule_laws.proofs.Next.{On, boundary_inside}
use Rattle.boundary.specs.Rows.{onward}

-- the end of the first of some edges does not hang on what is said for none
first_end : (d e : ℕ) (ys : List Step) → 0 < length ys → get_or (map (λ s. s.to) ys) 0 d ≡ get_or (map (λ s. s.to) ys) 0 e
first_end d e [] h = absurd (omega arith)
first_end d e (y ∷ ys) h = refl

-- it is below what all are below
end_below : (P d : ℕ) (ys : List Step) → 0 < length ys → All (λ s. s.to < P) ys → get_or (map (λ s. s.to) ys) 0 d < P
end_below P d [] h a = absurd (omega arith)
end_below P d (y ∷ ys) h a = a.0

module _ (b : List Step) (v : ℕ) (e : any (λ s. eqb s.from v) b ≡ true) where
  -- some edge begins at v
  some_begin : 0 < length (filter (λ s. eqb s.from v) b)
  some_begin =
      let w = any_mem (λ s. eqb s.from v) b (subst T (sym e) tt) in
      some_length w.0 (filter (λ s. eqb s.from v) b) (mem_filter (λ s. eqb s.from v) w.0 b w.1 w.2)

  -- the boundary goes on to the rules' next vertex
  pub onward_next : (P : ℕ) → onward P b v ≡ next b v
  unfolding onward next
  onward_next P = first_end P v (filter (λ s. eqb s.from v) b) some_begin

-- where no edge begins at v, P stands there
pub onward_none : (P : ℕ) (b : List Step) (v : ℕ) → any (λ s. eqb s.from v) b ≡ false → onward P b v ≡ P
unfolding onward
onward_none P b v e = rw (none_filter (λ s. eqb s.from v) b e)

-- so a vertex begins a boundary edge exactly where a point stands there: the rules' test for the start of a loop
pub onward_begins : (P : ℕ) (fs : List Face) → Inside P fs → (v : ℕ) → ltb (onward P (boundary fs) v) P ≡ any (λ s. eqb s.from v) (boundary fs)
onward_begins P fs h v = go (any (λ s. eqb s.from v) (boundary fs)) refl
  where
    ends_inside : All (λ s. s.to < P) (filter (λ s. eqb s.from v) (boundary fs))
    ends_inside =
        in_all (λ s. s.to < P) (filter (λ s. eqb s.from v) (boundary fs))
        (λ s m. (boundary_inside P fs h s (mem_left (λ t. eqb t.from v) s (boundary fs) m).0).1)

    go : (b : Bool) → any (λ s. eqb s.from v) (boundary fs) ≡ b → ltb (onward P (boundary fs) v) P ≡ b
    go true e =
        lt-ltb (onward P (boundary fs) v) P
        (unfold onward in (end_below P P (filter (λ s. eqb s.from v) (boundary fs)) (some_begin (boundary fs) v e) ends_inside))
    go false e = le-ltb (onward P (boundary fs) v) P (omega (arith, onward_none P (boundary fs) v e))

-- the same in the words of the rules' theorems on loops: an edge begins at v
pub on_any : (b : List Step) (v : ℕ) → On b v → any (λ s. eqb s.from v) b ≡ true
on_any b v (s, m, e) = is_true (any (λ t. eqb t.from v) b) (any_intro (λ t. eqb t.from v) s b m (subst (λ k. T (eqb s.from k)) e (eqb_refl s.from)))

-- and back
pub any_on : (b : List Step) (v : ℕ) → any (λ s. eqb s.from v) b ≡ true → On b v
any_on b v e = let w = any_mem (λ s. eqb s.from v) b (subst T (sym e) tt) in (w.0, w.1, eqb→eq w.0.from v w.2)
