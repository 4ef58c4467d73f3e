-- The lines of exchanged corners, run on a bench where origins rise: the faces are those after the walk of pass 4. Assumes nothing.
use mathlib.Core.Path.{◌≡◌, refl, sym, ap, ◌∙◌, subst}
use mathlib.Core.Logic.{inl, inr}
use mathlib.Core.Bool.{Bool, true, false, not, cond}
use mathlib.Core.Option.{some}
use mathlib.Core.List.{List, [], ◌∷◌, ◌++◌, map, append_assoc, map-append}
use Prim.Native.Nat.{ℕ, suc, ◌<◌}
use native.Mathlib.Omega.{arith}
use native.Mathlib.Decide.{ℕ_discrete}
use borrow.Author.Tests.{eq-eqb, ne_eqb}
use lib.Dec.{eqb}
use lib.ListN.{length}
use Rattle.rules.specs.Lists.{below, each, through}
use Rattle.rules.specs.Mesh.{Point, Face, face, exchanged}
use Rattle.rules.specs.Mending.{Line, exchange, turned}
use Rattle.rules.specs.Applying.{section, numbers, applies, change, with_list_line}
use Rattle.rule_laws.proofs.Lists.{below_suc, each_map}
use Rattle.rule_laws.proofs.Rising.{All, all_append, all_imp}
use Rattle.rule_laws.proofs.Turning.{OrExchanged, Turned}
use Rattle.mending_laws.proofs.Running.{bench, run, behind_early, behind_precedes, stepped, Ran}
use Rattle.mending_laws.proofs.Dropping.{Around, around, is_present, Takes, takes_kept}

-- a line for each face whose corner 1 is another one
abbrev pub exchanges : List Face → List Face → List Line
exchanges fs gs = each (λ i. cond (turned fs gs i) (exchange (face gs i).origin ∷ []) []) (below (length gs))

-- the line of the first face, and those of the others
exchanges_cons :
    (f g : Face) (fs gs : List Face)
    → exchanges (f ∷ fs) (g ∷ gs) ≡ cond (not (eqb f.b g.b)) (exchange g.origin ∷ []) [] ++ exchanges fs gs
unfolding each face turned
exchanges_cons f g fs gs =
    ap (each (λ i. cond (turned (f ∷ fs) (g ∷ gs) i) (exchange (face (g ∷ gs) i).origin ∷ []) [])) (below_suc (length gs))
    ∙ ap (λ l. cond (not (eqb f.b g.b)) (exchange g.origin ∷ []) [] ++ l) (each_map (λ i. cond (turned (f ∷ fs) (g ∷ gs) i) (exchange (face (g ∷ gs) i).origin ∷ []) []) suc (below (length gs)))

-- the face of that origin alone is exchanged
one_turns :
    (done : List Face) (f : Face) (fs : List Face) → Around done f fs
    → map (λ g. cond (eqb f.origin g.origin) (exchanged g) g) (done ++ f ∷ fs) ≡ done ++ exchanged f ∷ fs
one_turns done f fs r =
    map-append step done (f ∷ fs)
    ∙ (λ i. same done (all_imp (λ g. g.origin < f.origin) (λ g. step g ≡ g) (λ g q. other g (λ e. absurd (omega arith))) done r.before) i
    ++ itself i ∷ same fs (all_imp (λ g. f.origin < g.origin) (λ g. step g ≡ g) (λ g q. other g (λ e. absurd (omega arith))) fs r.after) i)
  where
    step : Face → Face
    step g = cond (eqb f.origin g.origin) (exchanged g) g

    other : (g : Face) → (f.origin ≡ g.origin → ⊥) → cond (eqb f.origin g.origin) (exchanged g) g ≡ g
    other g ne = rw (ne_eqb f.origin g.origin ne) refl

    itself : cond (eqb f.origin f.origin) (exchanged f) f ≡ exchanged f
    itself = rw (eq-eqb f.origin f.origin refl) refl

    same : (xs : List Face) → All (λ g. step g ≡ g) xs → map step xs ≡ xs
    same [] h = refl
    same (x ∷ xs) h = λ i. h.0 i ∷ same xs h.1 i

-- a face whose last two corners are equal is not changed by an exchange
pub exchanged_same : (f : Face) → f.b ≡ f.c → exchanged f ≡ f
unfolding exchanged
exchanged_same f e = λ i. record { a = f.a; b = sym e i; c = e i; origin = f.origin }

module _ (P F : ℕ) (ps : List Point) (n : ℕ) (us : List ℕ) where
  -- a face exchanged by its line
  takes_turned : (ls : List Line) (f : Face) (fs gs : List Face) → Takes P F 4 ps n us ls fs gs → Takes P F 4 ps n us (exchange f.origin ∷ ls) (f ∷ fs) (exchanged f ∷ gs)
  unfolding numbers section applies change through
  takes_turned ls f fs gs ih done a last lo up be =
      let r = around a done f fs lo up in
      let at : List ℕ = 4 ∷ f.origin ∷ [] in
      let one : with_list_line P F (some (bench ps (done ++ f ∷ fs) n us last)) (some (exchange f.origin)) ≡ some (bench ps (done ++ exchanged f ∷ fs) n us at) =
      stepped P F (bench ps (done ++ f ∷ fs) n us last) (exchange f.origin)
      (behind_precedes 4 a f.origin last [] be up.0) (is_present ps done f fs n us last)
      ∙ ap (λ l. some (bench ps l n us at)) (one_turns done f fs r) in
      let q = ih (done ++ (exchanged f ∷ [])) (suc f.origin) at
      (all_append (λ g. g.origin < suc f.origin) done (exchanged f ∷ []) (all_imp (λ g. g.origin < f.origin) (λ g. g.origin < suc f.origin) (λ g h. omega arith) done r.before) (own f, tt))
      up.1 (inr (refl, omega arith)) in
      let q' = subst (λ l. Ran P F (some (bench ps l n us at)) ls ps (done ++ (exchanged f ∷ gs)) n us 5) (append_assoc done (exchanged f ∷ []) fs)
      (subst (λ l. Ran P F (some (bench ps ((done ++ (exchanged f ∷ [])) ++ fs) n us at)) ls ps l n us 5) (append_assoc done (exchanged f ∷ []) gs) q) in
      record { last = q'.last; early = q'.early; goes = ap (λ s. run P F s ls) one ∙ q'.goes }
    where
      own : (g : Face) → (exchanged g).origin < suc g.origin
      own g = unfold exchanged in (omega arith)

  -- the lines run, and the faces are exchanged
  pub exchanges_run : (fs gs : List Face) → Turned fs gs → Takes P F 4 ps n us (exchanges fs gs) fs gs
  exchanges_run [] [] t = λ done a last lo up be. unfold each below through in (record { last = last; early = behind_early 4 a last be; goes = refl })
  exchanges_run [] (g ∷ gs) t = absurd (omega (arith, t.0))
  exchanges_run (f ∷ fs) [] t = absurd (omega (arith, t.0))
  exchanges_run (f ∷ fs) (g ∷ gs) t =
      subst (λ ls. Takes P F 4 ps n us ls (f ∷ fs) (g ∷ gs)) (sym (exchanges_cons f g fs gs))
      (go (unfold face in (t.1 0)) (exchanges_run fs gs (omega (arith, t.0), λ i. unfold face in (t.1 (suc i)))))
    where
      whole : (h : Face) → h ≡ f → Takes P F 4 ps n us (exchanges fs gs) fs gs
          → Takes P F 4 ps n us (cond (not (eqb f.b h.b)) (exchange h.origin ∷ []) [] ++ exchanges fs gs) (f ∷ fs) (h ∷ gs)
      whole h e ih =
          subst (λ h. Takes P F 4 ps n us (cond (not (eqb f.b h.b)) (exchange h.origin ∷ []) [] ++ exchanges fs gs) (f ∷ fs) (h ∷ gs)) (sym e)
          (rw (eq-eqb f.b f.b refl) (takes_kept P F 4 ps n us (exchanges fs gs) f fs gs ih))

      go : OrExchanged f g → Takes P F 4 ps n us (exchanges fs gs) fs gs
          → Takes P F 4 ps n us (cond (not (eqb f.b g.b)) (exchange g.origin ∷ []) [] ++ exchanges fs gs) (f ∷ fs) (g ∷ gs)
      go (inl e) ih = whole g e ih
      go (inr e) ih = at (ℕ_discrete f.b f.c)
        where
          at : Dec (f.b ≡ f.c) → Takes P F 4 ps n us (cond (not (eqb f.b g.b)) (exchange g.origin ∷ []) [] ++ exchanges fs gs) (f ∷ fs) (g ∷ gs)
          at (yes q) = whole g (e ∙ exchanged_same f q) ih
          at (no q) =
              subst (λ h. Takes P F 4 ps n us (cond (not (eqb f.b h.b)) (exchange h.origin ∷ []) [] ++ exchanges fs gs) (f ∷ fs) (h ∷ gs)) (sym e)
              (turn q)
            where
              turn : (f.b ≡ f.c → ⊥) → Takes P F 4 ps n us (cond (not (eqb f.b (exchanged f).b)) (exchange (exchanged f).origin ∷ []) [] ++ exchanges fs gs) (f ∷ fs) (exchanged f ∷ gs)
              turn q = only (eqb f.b (exchanged f).b) (exchanged f).origin (unfold exchanged in (ne_eqb f.b f.c q)) (unfold exchanged in refl)
                where
                  only : (b : Bool) (o : ℕ) → b ≡ false → o ≡ f.origin → Takes P F 4 ps n us (cond (not b) (exchange o ∷ []) [] ++ exchanges fs gs) (f ∷ fs) (exchanged f ∷ gs)
                  only true o r s = absurd (subst (λ b. cond b (Unit {0}) ⊥) r tt)
                  only false o r s = rw s (takes_turned (exchanges fs gs) f fs gs ih)
