-- The lines of faces that leave, run on a bench where origins rise: what is left is `leave`. Assumes nothing.
use mathlib.Core.Path.{◌≡◌, refl, sym, ap, ◌∙◌, subst}
use mathlib.Core.Logic.{inr}
use mathlib.Core.Bool.{Bool, true, false, not, cond}
use mathlib.Core.Option.{some}
use mathlib.Core.List.Memᴰ
use mathlib.Core.List.{List, [], ◌∷◌, ◌++◌, append_assoc}
use Prim.Native.Nat.{ℕ, suc, ◌≤◌, ◌<◌}
use native.Mathlib.Omega.{arith}
use borrow.Author.Tests.{eq-eqb, ne_eqb}
use lib.Dec.{T, eqb, eqb_refl}
use lib.ListN.{length}
use Rattle.rules.specs.Lists.{below, filter, each, leave, through}
use Rattle.rules.specs.Mesh.{Point, Face, face}
use Rattle.rules.specs.Mending.{Reason, Line, dropped_face, pass_of, drops}
use Rattle.rules.specs.Applying.{section, numbers, present, applies, change, with_list_line}
use Rattle.rule_laws.proofs.Lists.{below_suc, each_map, filter_append}
use Rattle.rule_laws.proofs.Rising.{All, all_append, all_imp, Up}
use Rattle.rule_laws.proofs.Members.{any_intro}
use Rattle.rule_laws.proofs.Origins.{origins}
use Rattle.mending_laws.proofs.Running.{bench, run, Behind, behind_early, behind_later, behind_precedes, stepped, Ran}

-- origins that rise from a on are not below a
pub rise_all : (a : ℕ) (fs : List Face) → Up a (origins fs) → All (λ g. a ≤ g.origin) fs
rise_all a [] h = tt
rise_all a (f ∷ fs) h = (h.0, all_imp (λ g. suc f.origin ≤ g.origin) (λ g. a ≤ g.origin) (λ g q. omega (arith, h.0)) fs (rise_all (suc f.origin) fs h.1))

-- from an earlier beginning
up_from : (a b : ℕ) (xs : List ℕ) → a ≤ b → Up b xs → Up a xs
up_from a b [] l h = tt
up_from a b (x ∷ xs) l h = (omega (arith, h.0), h.1)

-- faces that leave
pub leave_rise : (a : ℕ) (marked : ℕ → Bool) (fs : List Face) → Up a (origins fs) → Up a (origins (leave marked fs))
unfolding leave
leave_rise a marked [] h = tt
leave_rise a marked (f ∷ fs) h = go (marked 0) (leave_rise (suc f.origin) (λ i. marked (suc i)) fs h.1)
  where
    go : (b : Bool) → Up (suc f.origin) (origins (leave (λ i. marked (suc i)) fs)) → Up a (origins (cond b (leave (λ i. marked (suc i)) fs) (f ∷ leave (λ i. marked (suc i)) fs)))
    go true r = up_from a (suc f.origin) (origins (leave (λ i. marked (suc i)) fs)) (omega (arith, h.0)) r
    go false r = (h.0, r)

-- the same origins name input faces
pub low_origins : (F : ℕ) (fs gs : List Face) → origins gs ≡ origins fs → All (λ f. f.origin < F) fs → All (λ f. f.origin < F) gs
low_origins F fs gs e h = back gs (subst (All (λ o. o < F)) (sym e) (there fs h))
  where
    there : (fs : List Face) → All (λ f. f.origin < F) fs → All (λ o. o < F) (origins fs)
    there [] h = tt
    there (f ∷ fs) h = (h.0, there fs h.1)

    back : (gs : List Face) → All (λ o. o < F) (origins gs) → All (λ f. f.origin < F) gs
    back [] h = tt
    back (g ∷ gs) h = (h.0, back gs h.1)

-- where all pass, all stay
pub filter_whole : {A : Type 0} (p : A → Bool) (xs : List A) → All (λ x. p x ≡ true) xs → filter p xs ≡ xs
unfolding filter
filter_whole p [] h = refl
filter_whole p (x ∷ xs) h = rw (h.0, filter_whole p xs h.1)

-- faces before and after one, by their origins
pub record Around (done : List Face) (f : Face) (fs : List Face) : Type 0 where
  pub before : All (λ g. g.origin < f.origin) done
  pub after : All (λ g. f.origin < g.origin) fs

-- so it stands when origins rise
pub around : (a : ℕ) (done : List Face) (f : Face) (fs : List Face) → All (λ g. g.origin < a) done → Up a (origins (f ∷ fs)) → Around done f fs
around a done f fs h u =
    record {
      before = all_imp (λ g. g.origin < a) (λ g. g.origin < f.origin) (λ g q. omega (arith, u.0)) done h;
      after = rise_all (suc f.origin) fs u.1;
    }

-- the face of that origin is there
pub is_present : (ps : List Point) (done : List Face) (f : Face) (fs : List Face) (n : ℕ) (us last : List ℕ) → T (present (bench ps (done ++ f ∷ fs) n us last) f.origin)
unfolding present
is_present ps done f fs n us last =
    any_intro (λ g. eqb f.origin g.origin) f (done ++ f ∷ fs) (Memᴰ.append_right done (Memᴰ.head refl)) (eqb_refl f.origin)

-- it alone leaves
one_leaves : (done : List Face) (f : Face) (fs : List Face) → Around done f fs → filter (λ g. not (eqb f.origin g.origin)) (done ++ f ∷ fs) ≡ done ++ fs
one_leaves done f fs r =
    filter_append (λ g. not (eqb f.origin g.origin)) done (f ∷ fs)
    ∙ (λ i. filter_whole (λ g. not (eqb f.origin g.origin)) done (all_imp (λ g. g.origin < f.origin) (λ g. not (eqb f.origin g.origin) ≡ true) (λ g q. other g (λ e. absurd (omega arith))) done r.before) i ++ rest i)
  where
    other : (g : Face) → (f.origin ≡ g.origin → ⊥) → not (eqb f.origin g.origin) ≡ true
    other g ne = rw (ne_eqb f.origin g.origin ne) refl

    rest : filter (λ g. not (eqb f.origin g.origin)) (f ∷ fs) ≡ fs
    rest =
        unfold filter in
        (rw (eq-eqb f.origin f.origin refl)
        (filter_whole (λ g. not (eqb f.origin g.origin)) fs (all_imp (λ g. f.origin < g.origin) (λ g. not (eqb f.origin g.origin) ≡ true) (λ g q. other g (λ e. absurd (omega arith))) fs r.after)))

-- the line of the first face, and those of the others
pub drops_cons :
    (marked : ℕ → Bool) (why : ℕ → Reason) (f : Face) (fs : List Face)
    → drops marked why (f ∷ fs) ≡ cond (marked 0) (dropped_face f.origin (why 0) ∷ []) [] ++ drops (λ i. marked (suc i)) (λ i. why (suc i)) fs
unfolding drops face each
drops_cons marked why f fs =
    ap (each (λ i. cond (marked i) (dropped_face (face (f ∷ fs) i).origin (why i) ∷ []) [])) (below_suc (length fs))
    ∙ ap (λ l. cond (marked 0) (dropped_face f.origin (why 0) ∷ []) [] ++ l) (each_map (λ i. cond (marked i) (dropped_face (face (f ∷ fs) i).origin (why i) ∷ []) []) suc (below (length fs)))

module _ (P F k : ℕ) (ps : List Point) (n : ℕ) (us : List ℕ) where
  -- lines take the faces fs to gs, behind faces that are done
  abbrev pub Takes : List Line → List Face → List Face → Type 0
  Takes ls fs gs =
      (done : List Face) (a : ℕ) (last : List ℕ) → All (λ g. g.origin < a) done → Up a (origins fs) → Behind k a last
      → Ran P F (some (bench ps (done ++ fs) n us last)) ls ps (done ++ gs) n us (suc k)

  -- a face that stays as it is
  pub takes_kept : (ls : List Line) (f : Face) (fs gs : List Face) → Takes ls fs gs → Takes ls (f ∷ fs) (f ∷ gs)
  takes_kept ls f fs gs ih done a last lo up be =
      subst (λ l. Ran P F (some (bench ps l n us last)) ls ps (done ++ (f ∷ gs)) n us (suc k)) (append_assoc done (f ∷ []) fs)
      (subst (λ l. Ran P F (some (bench ps ((done ++ (f ∷ [])) ++ fs) n us last)) ls ps l n us (suc k)) (append_assoc done (f ∷ []) gs)
      (ih (done ++ (f ∷ [])) (suc f.origin) last
      (all_append (λ g. g.origin < suc f.origin) done (f ∷ []) (all_imp (λ g. g.origin < a) (λ g. g.origin < suc f.origin) (λ g h. omega (arith, up.0)) done lo) (omega arith, tt))
      up.1 (behind_later k a (suc f.origin) last (omega (arith, up.0)) be)))

  -- a face that leaves by its line
  takes-dropped :
      (why : Reason) → ((f : ℕ) → section (dropped_face f why) ≡ k) → (ls : List Line) (f : Face) (fs gs : List Face) → Takes ls fs gs → Takes (dropped_face f.origin why ∷ ls) (f ∷ fs) gs
  unfolding numbers applies change through
  takes-dropped why sec ls f fs gs ih done a last lo up be =
      let r = around a done f fs lo up in
      let at : List ℕ = section (dropped_face f.origin why) ∷ f.origin ∷ pass_of why ∷ [] in
      let one : with_list_line P F (some (bench ps (done ++ f ∷ fs) n us last)) (some (dropped_face f.origin why)) ≡ some (bench ps (done ++ fs) n us at) =
      stepped P F (bench ps (done ++ f ∷ fs) n us last) (dropped_face f.origin why)
      (rw (sec f.origin) (behind_precedes k a f.origin last (pass_of why ∷ []) be up.0))
      (is_present ps done f fs n us last)
      ∙ ap (λ l. some (bench ps l n us at)) (one_leaves done f fs r) in
      let q = ih done (suc f.origin) at (all_imp (λ g. g.origin < f.origin) (λ g. g.origin < suc f.origin) (λ g h. omega arith) done r.before) up.1 (inr (sec f.origin, omega arith)) in
      record { last = q.last; early = q.early; goes = ap (λ s. run P F s ls) one ∙ q.goes }

  -- the lines run, and the marked faces have left
  pub drops_run :
      (fs : List Face) (marked : ℕ → Bool) (why : ℕ → Reason) → ((i f : ℕ) → section (dropped_face f (why i)) ≡ k) → Takes (drops marked why fs) fs (leave marked fs)
  unfolding leave
  drops_run [] marked why sec =
      λ done a last lo up be. unfold drops each below through in (record { last = last; early = behind_early k a last be; goes = refl })
  drops_run (f ∷ fs) marked why sec =
      subst (λ ls. Takes ls (f ∷ fs) (leave marked (f ∷ fs))) (sym (drops_cons marked why f fs))
      (go (marked 0) (drops_run fs (λ i. marked (suc i)) (λ i. why (suc i)) (λ i g. sec (suc i) g)))
    where
      go : (b : Bool) → Takes (drops (λ i. marked (suc i)) (λ i. why (suc i)) fs) fs (leave (λ i. marked (suc i)) fs)
          → Takes (cond b (dropped_face f.origin (why 0) ∷ []) [] ++ drops (λ i. marked (suc i)) (λ i. why (suc i)) fs) (f ∷ fs) (cond b (leave (λ i. marked (suc i)) fs) (f ∷ leave (λ i. marked (suc i)) fs))
      go true ih = takes-dropped (why 0) (sec 0) (drops (λ i. marked (suc i)) (λ i. why (suc i)) fs) f fs (leave (λ i. marked (suc i)) fs) ih
      go false ih = takes_kept (drops (λ i. marked (suc i)) (λ i. why (suc i)) fs) f fs (leave (λ i. marked (suc i)) fs) ih
