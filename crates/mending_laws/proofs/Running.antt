-- Lines that run on a bench one after the other, and their order: by section, then by first number. Assumes nothing.
use mathlib.Core.Path.{◌≡◌, refl, ap, ◌∙◌}
use mathlib.Core.Logic.{◌⊎◌, inl, inr}
use mathlib.Core.Bool.{Bool, ◌&&◌, cond}
use mathlib.Core.Option.{Option, none, some}
use mathlib.Core.List.{List, [], ◌∷◌, ◌++◌, map, map-append}
use Prim.Native.Nat.{ℕ, suc, ◌≤◌, ◌<◌}
use native.Mathlib.Omega.{arith}
use borrow.Author.Tests.{lt-ltb, eq-eqb}
use lib.Dec.{T, eqb, ltb}
use lib.Ieee.Bits.{is_true}
use lib.Ieee.Fits.{and_i}
use Rattle.rules.specs.Lists.{through}
use Rattle.rules.specs.Mesh.{Point, Face}
use Rattle.rules.specs.Mending.{Line}
use Rattle.rules.specs.Applying.{Bench, section, numbers, precedes, applies, change, with_list_line}
use Rattle.rule_laws.proofs.Lists.{through_append}
use Rattle.rule_laws.proofs.Tests.{or_left, or_right}

-- what stands on a bench, by its parts
abbrev pub bench : List Point → List Face → ℕ → List ℕ → List ℕ → Bench
bench ps fs n us last = record { points = ps; faces = fs; splits = n; unused = us; last = last }

-- what lines make of it
abbrev pub run : ℕ → ℕ → Option Bench → List Line → Option Bench
run P F s ls = through (with_list_line P F) s (map some ls)

-- ---- order

-- the last line is of a section before k
abbrev pub Early : ℕ → List ℕ → Type 0
Early k [] = Unit {0}
Early k (x ∷ xs) = x < k

-- or of section k with a first number below a
abbrev pub Behind : ℕ → ℕ → List ℕ → Type 0
Behind k a [] = Unit {0}
Behind k a (x ∷ []) = x < k
Behind k a (x ∷ n ∷ xs) = (x < k) ⊎ ((x ≡ k) × (n < a))

-- a section that begins
pub early_behind : (k a : ℕ) (last : List ℕ) → Early k last → Behind k a last
early_behind k a [] h = tt
early_behind k a (x ∷ []) h = h
early_behind k a (x ∷ n ∷ xs) h = inl h

-- a section that ends
pub behind_early : (k a : ℕ) (last : List ℕ) → Behind k a last → Early (suc k) last
behind_early k a [] h = tt
behind_early k a (x ∷ []) h = omega arith
behind_early k a (x ∷ n ∷ xs) (inl h) = omega arith
behind_early k a (x ∷ n ∷ xs) (inr h) = omega (arith, h.0)

-- a later section
pub early_later : (k l : ℕ) (last : List ℕ) → k ≤ l → Early k last → Early l last
early_later k l [] le h = tt
early_later k l (x ∷ xs) le h = omega arith

-- a higher first number is as good
pub behind_later : (k a b : ℕ) (last : List ℕ) → a ≤ b → Behind k a last → Behind k b last
behind_later k a b [] le h = tt
behind_later k a b (x ∷ []) le h = h
behind_later k a b (x ∷ n ∷ xs) le (inl h) = inl h
behind_later k a b (x ∷ n ∷ xs) le (inr h) = inr (h.0, omega (arith, h.1))

-- a lower number comes first
pub lower : (x y : ℕ) (xs ys : List ℕ) → x < y → T (precedes (x ∷ xs) (y ∷ ys))
unfolding precedes
lower x y xs ys h = or_left (ltb x y) (eqb x y && precedes xs ys) (rw (lt-ltb x y h) tt)

-- of equal ones what follows decides
pub equal_then : (x y : ℕ) (xs ys : List ℕ) → x ≡ y → T (precedes xs ys) → T (precedes (x ∷ xs) (y ∷ ys))
unfolding precedes
equal_then x y xs ys e t = or_right (ltb x y) (eqb x y && precedes xs ys) (and_i (eqb x y) (precedes xs ys) (rw (eq-eqb x y e) tt) t)

-- a line of a later section comes after
pub early_precedes : (k l : ℕ) (last rest : List ℕ) → Early k last → k ≤ l → T (precedes last (l ∷ rest))
early_precedes k l [] rest h le = unfold precedes in tt
early_precedes k l (x ∷ xs) rest h le = lower x l xs rest (omega arith)

-- a line of section k with a first number from a on comes after
pub behind_precedes : (k a n : ℕ) (last rest : List ℕ) → Behind k a last → a ≤ n → T (precedes last (k ∷ n ∷ rest))
behind_precedes k a n [] rest h le = unfold precedes in tt
behind_precedes k a n (x ∷ []) rest h le = lower x k [] (n ∷ rest) h
behind_precedes k a n (x ∷ m ∷ xs) rest (inl h) le = lower x k (m ∷ xs) (n ∷ rest) h
behind_precedes k a n (x ∷ m ∷ xs) rest (inr h) le = equal_then x k (m ∷ xs) (n ∷ rest) h.0 (lower m n xs rest (omega (arith, h.1)))

-- ---- lines that run

-- a line in its order that applies is run
pub stepped :
    (P F : ℕ) (b : Bench) (l : Line) → T (precedes b.last (section l ∷ numbers l)) → T (applies P F b l)
    → with_list_line P F (some b) (some l) ≡ some (change b l (section l ∷ numbers l))
unfolding with_list_line
stepped P F b l t u =
    ap (λ (c : Bool). cond c (some (change b l (section l ∷ numbers l))) none)
    (is_true (precedes b.last (section l ∷ numbers l) && applies P F b l) (and_i (precedes b.last (section l ∷ numbers l)) (applies P F b l) t u))

-- the lines run, end with these points, faces, splits and unused points, and are of sections before k
pub record Ran (P F : ℕ) (s : Option Bench) (ls : List Line) (ps : List Point) (fs : List Face) (n : ℕ) (us : List ℕ) (k : ℕ) : Type 0 where
  pub last : List ℕ
  pub early : Early k last
  pub goes : run P F s ls ≡ some (bench ps fs n us last)

-- lines one after the other
pub run_append : (P F : ℕ) (s : Option Bench) (xs ys : List Line) → run P F s (xs ++ ys) ≡ run P F (run P F s xs) ys
run_append P F s xs ys = ap (through (with_list_line P F) s) (map-append some xs ys) ∙ through_append (with_list_line P F) s (map some xs) (map some ys)

-- sections one after the other
pub ran_then :
    {P F : ℕ} {s : Option Bench} {xs ys : List Line} {ps ps' : List Point} {fs fs' : List Face} {n n' : ℕ} {us us' : List ℕ} {k l : ℕ}
    → Ran P F s xs ps fs n us k → ((last : List ℕ) → Early k last → Ran P F (some (bench ps fs n us last)) ys ps' fs' n' us' l)
    → Ran P F s (xs ++ ys) ps' fs' n' us' l
ran_then {P} {F} {s} {xs} {ys} r f =
    let q = f r.last r.early in
    record { last = q.last; early = q.early; goes = run_append P F s xs ys ∙ ap (λ t. run P F t ys) r.goes ∙ q.goes }

-- no line
pub ran_none :
    {P F : ℕ} {ps : List Point} {fs : List Face} {n : ℕ} {us last : List ℕ} {k : ℕ} → Early k last → Ran P F (some (bench ps fs n us last)) [] ps fs n us k
unfolding through
ran_none {last = last} h = record { last = last; early = h; goes = refl }
