-- The starred examples of document 01 as one equation: what the rules give is what document 01 says. The rows are compared number by number; lists that are
-- found to hold the same numbers are equal. Assumes nothing.
use mathlib.Core.Path.{◌≡◌, refl, ap, ap₂}
use mathlib.Core.Bool.{Bool, true, false, ◌&&◌, cond, true≢false}
use mathlib.Core.List.{List, [], ◌∷◌, map}
use Prim.Native.Nat.{ℕ, suc}
use lib.Dec.{T, eqb, eqb→eq}
use Rattle.rules.specs.Bench.{Row, same_list, same_lists, faults_from, faults, table, bench}
use Rattle.rule_laws.proofs.Tests.{and_elim}

-- lists that hold the same numbers are equal
same_list_eq : (xs ys : List ℕ) → T (same_list xs ys) → xs ≡ ys
unfolding same_list
same_list_eq [] [] t = refl
same_list_eq [] (y ∷ ys) t = absurd t
same_list_eq (x ∷ xs) [] t = absurd t
same_list_eq (x ∷ xs) (y ∷ ys) t = let b = and_elim (eqb x y) (same_list xs ys) t in ap₂ ◌∷◌ (eqb→eq x y b.0) (same_list_eq xs ys b.1)

-- lists of lists that do are equal
same_lists_eq : (xs ys : List (List ℕ)) → T (same_lists xs ys) → xs ≡ ys
unfolding same_lists
same_lists_eq [] [] t = refl
same_lists_eq [] (y ∷ ys) t = absurd t
same_lists_eq (x ∷ xs) [] t = absurd t
same_lists_eq (x ∷ xs) (y ∷ ys) t = let b = and_elim (same_list x y) (same_lists xs ys) t in ap₂ ◌∷◌ (same_list_eq x y b.0) (same_lists_eq xs ys b.1)

-- one row more, that holds or not
step_eq : (b : Bool) (n : ℕ) (rest : List ℕ) → cond b rest (n ∷ rest) ≡ [] → T b × (rest ≡ [])
step_eq true n rest e = (tt, e)
step_eq false n rest e = absurd (true≢false (ap (λ (l : List ℕ). elim l [ [] ↦ false | x ∷ xs ↦ true ]) e))

-- a table with no fault holds
rows_eq : (n : ℕ) (rows : List Row) → faults_from n rows ≡ [] → map (λ r. r.found) rows ≡ map (λ r. r.stated) rows
unfolding faults_from
rows_eq n [] e = refl
rows_eq n (r ∷ rows) e = let b = step_eq (same_lists r.found r.stated) n (faults_from (suc n) rows) e in
    ap₂ ◌∷◌ (same_lists_eq r.found r.stated b.0) (rows_eq (suc n) rows b.1)

-- every starred example holds
pub starred : map (λ r. r.found) table ≡ map (λ r. r.stated) table
unfolding faults
starred = rows_eq 0 table bench
