-- The marks of one run more, in a loop over the runs of the table: after r of them the faces that are lost at one of the first r edges are marked.
-- Assumes nothing.
use mathlib.Core.Path.{◌≡◌, refl, sym, ap, subst, ◌∙◌}
use mathlib.Core.Bool.{Bool, true, false, ◌||◌, cond, or-false, or_assoc}
use mathlib.Core.List.{List, [], ◌∷◌, ◌++◌}
use Prim.Native.Nat.{ℕ, ◌+◌, ◌*◌, ◌≤◌, ◌<◌}
use native.Mathlib.Omega.{arith}
use native.Mathlib.Numerals.{add-one}
use lib.ListN.{length, take}
use lib.Seq.{take-suc, take-length}
use lib.Ieee.{Float}
use Rattle.rows.specs.Region.{Apart.before, Only, Holds, Filled}
use Rattle.rows.proofs.Regions.{only_none, only_both, only_more}
use Rattle.rules.specs.Lists.{any}
use Rattle.rules.specs.Mesh.{faces_of}
use Rattle.rules.specs.Steps.{Step, step}
use Rattle.table.specs.Entries.{keys_of}
use Rattle.table.specs.Table.{Tabled, TableGives}
use Rattle.table.proofs.Places.{tabled_kept}
use Rattle.leaving.specs.Pass.{MarkGives}
use Rattle.marking.specs.Marking.{point_count, face_count, edge_at, MarkAsks, RunAsks, LostGives}

-- one element more passes, or one before does
pub any_snoc : {A : Type 0} (p : A → Bool) (xs : List A) (x : A) → any p (xs ++ (x ∷ [])) ≡ (any p xs || p x)
unfolding any
any_snoc p [] x = or-false (p x)
any_snoc p (y ∷ ys) x = ap (λ b. p y || b) (any_snoc p ys x) ∙ sym (or_assoc (p y) (any p ys) (p x))

-- a mark that is set, or was
marked_twice : (a b : Bool) → ◌≡◌ {A = ℕ} (cond a 1 (cond b 1 0)) (cond (b || a) 1 0)
marked_twice true true = refl
marked_twice true false = refl
marked_twice false true = refl
marked_twice false false = refl

-- face i is lost at one of the edges
abbrev pub lost_among : (Step → ℕ → Bool) → List Step → ℕ → Bool
lost_among lost es i = any (λ e. lost e i) es

-- r runs have passed
pub record Passed (lost : Step → ℕ → Bool) (d : Bool) (ps : List Float) (xs w₁ : List ℕ) (marks m : ℕ) (w : List ℕ) (r : ℕ) : Type 0 where
  pub most : r ≤ m
  pub only : Only marks (face_count xs) w₁ w
  pub tabled : Tabled w xs (point_count ps) d 0 m
  pub behind : 5 * length xs + 1 ≤ marks
  pub fit : marks + face_count xs ≤ length w
  pub flags : Holds marks (face_count xs) (λ i. cond (lost_among lost (take r (keys_of d (point_count ps) (faces_of xs))) i) 1 0) w

-- the marks may be cleared
pub clear_ok : {d : Bool} {ps : List Float} {xs w : List ℕ} {marks : ℕ} {w₁ : List ℕ} {m : ℕ} → MarkAsks ps xs w marks → TableGives w xs (point_count ps) d 0 w₁ m → marks + face_count xs ≤ length w₁
clear_ok p t = omega (arith, t.only.long, p.fit)

module _ (lost : Step → ℕ → Bool) {d : Bool} {ps : List Float} {xs w : List ℕ} {marks : ℕ} (p : MarkAsks ps xs w marks) {w₁ : List ℕ} {m : ℕ} (t : TableGives w xs (point_count ps) d 0 w₁ m) where
  module _ {w₂ : List ℕ} (o : Only marks (face_count xs) w₁ w₂) where
    -- no run has passed
    pub begin : Filled marks (face_count xs) 0 w₂ → Passed lost d ps xs w₂ marks m w₂ 0
    begin z =
        record {
          most = omega arith;
          only = only_none _ _ _;
          tabled = tabled_kept o (before (omega (arith, p.behind))) t.tabled;
          behind = omega (arith, p.behind);
          fit = omega (arith, o.long, clear_ok p t);
          flags = record { each = λ i h. unfold any in (z.each i h) };
        }

    -- all have: the marks are right
    pub done : {w' : List ℕ} {r : ℕ} (marked : ℕ → Bool) → ((i : ℕ) → lost_among lost (keys_of d (point_count ps) (faces_of xs)) i ≡ marked i) → Passed lost d ps xs w₂ marks m w' r → m ≤ r → MarkGives marked (marks + face_count xs) (face_count xs) w w' marks
    done {w'} {r} marked e v h =
        let k : r ≡ length (keys_of d (point_count ps) (faces_of xs)) = omega (arith, v.most, t.tabled.count) in
        let a : take r (keys_of d (point_count ps) (faces_of xs)) ≡ keys_of d (point_count ps) (faces_of xs) = ap (λ j. take j (keys_of d (point_count ps) (faces_of xs))) k ∙ take-length (keys_of d (point_count ps) (faces_of xs)) in
        record {
          within = omega arith;
          only = only_both (only_more (omega arith) (omega (arith, p.behind)) t.only) (only_more (omega arith) (omega arith) (only_both o v.only));
          flags = record { each = λ i q. v.flags.each i q ∙ ap (λ (b : Bool). cond {A = ℕ} b 1 0) (ap (λ es. lost_among lost es i) a ∙ e i) };
        }

module _ {lost : Step → ℕ → Bool} {d : Bool} {ps : List Float} {xs w₁ : List ℕ} {marks m : ℕ} {w : List ℕ} {r : ℕ} (v : Passed lost d ps xs w₁ marks m w r) (h : r < m) where
  -- run r may be read
  pub run_ok : RunAsks d ps xs w marks r
  run_ok =
      let c = v.tabled.count in
      record { tabled = subst (λ k. Tabled w xs (point_count ps) d 0 k) c v.tabled; here = omega arith; behind = v.behind; fit = v.fit }

  -- one edge more
  pub next_keys : take (r + 1) (keys_of d (point_count ps) (faces_of xs)) ≡ take r (keys_of d (point_count ps) (faces_of xs)) ++ (edge_at d ps xs r ∷ [])
  next_keys = rw (add-one r) (take-suc (keys_of d (point_count ps) (faces_of xs)) r (step 0 0) (omega (arith, v.tabled.count)))

  -- what is lost there is marked too
  pub again : {w' : List ℕ} → LostGives (lost (edge_at d ps xs r)) w marks (face_count xs) w' → Passed lost d ps xs w₁ marks m w' (r + 1)
  again {w'} g =
      record {
        most = omega arith;
        only = only_both v.only g.only;
        tabled = tabled_kept g.only (before (omega (arith, v.behind))) v.tabled;
        behind = v.behind;
        fit = omega (arith, g.only.long, v.fit);
        flags = record {
          each = λ i q.
              g.added.each i q
              ∙ ap (λ (x : ℕ). cond (lost (edge_at d ps xs r) i) 1 x) (v.flags.each i q)
              ∙ marked_twice (lost (edge_at d ps xs r) i) (lost_among lost (take r (keys_of d (point_count ps) (faces_of xs))) i)
              ∙ ap (λ (b : Bool). cond {A = ℕ} b 1 0) (sym (ap (λ es. lost_among lost es i) next_keys ∙ any_snoc (λ e. lost e i) (take r (keys_of d (point_count ps) (faces_of xs))) (edge_at d ps xs r)));
        };
      }
