-- The users and the walkers of an edge, face by face; what they are when faces have left. Assumes nothing.
use mathlib.Core.Path.{◌≡◌, refl, sym, ap, ap₂, ◌∙◌}
use mathlib.Core.Bool.{Bool, true, false, not, cond}
use mathlib.Core.List.{List, [], ◌∷◌, ◌++◌, map, map-append, map-map}
use Prim.Native.Nat.{ℕ, suc, ◌+◌}
use native.Mathlib.Nat.{zero-add}
use lib.ListN.{length}
use Rattle.rules.specs.Lists.{below, filter, count, each, leave}
use Rattle.rules.specs.Mesh.{Face, face}
use Rattle.rules.specs.Steps.{Step, steps, same, edge, Entry, entries, users, walkers}
use Rattle.rule_laws.proofs.Lists.{below_suc, filter_append, filter_map, each_map, map_each}
use Rattle.rule_laws.proofs.Counting.{count_all, count_append, count_map}

-- the faces with a step that passes the test, once for each such step; users and walkers are the two cases in use
abbrev pub takers : (Step → Bool) → List Face → List ℕ
takers p fs = map (λ n. n.by) (filter (λ n. p n.along) (entries fs))

-- the users of an edge are the takers of steps along it
pub users_takers : (fs : List Face) (e : Step) → users fs e ≡ takers (λ s. same e (edge s)) fs
unfolding users
users_takers fs e = refl

-- the walkers of a directed edge are the takers of that step
pub walkers_takers : (fs : List Face) (d : Step) → walkers fs d ≡ takers (same d) fs
unfolding walkers
walkers_takers fs d = refl

-- an entry when one face more stands in front
unfoldable pub later : Entry → Entry
later n = record { by = suc n.by; along = n.along }

-- the entries of the first face, and those of the others, one face later
pub entries_cons : (f : Face) (fs : List Face) → entries (f ∷ fs) ≡ map (λ s. record { by = 0; along = s }) (steps f) ++ map later (entries fs)
unfolding entries face later each
entries_cons f fs =
    rw (below_suc (length fs))
    (ap (λ l. map (λ s. record { by = 0; along = s }) (steps f) ++ l)
    (each_map (λ i. map (λ s. record { by = i; along = s }) (steps (face (f ∷ fs) i))) suc (below (length fs))
    ∙ sym (map_each later (λ i. map (λ s. record { by = i; along = s }) (steps (face fs i))) (below (length fs)))))

-- the takers in the first face, and those in the others
pub takers_cons : (p : Step → Bool) (f : Face) (fs : List Face) → takers p (f ∷ fs) ≡ map (λ s. 0) (filter p (steps f)) ++ map suc (takers p fs)
unfolding later
takers_cons p f fs =
    ap (λ l. map (λ n. n.by) (filter (λ n. p n.along) l)) (entries_cons f fs)
    ∙ ap (λ l. map (λ n. n.by) l) (filter_append (λ n. p n.along) (map first_entry (steps f)) (map later (entries fs)))
    ∙ map-append (λ n. n.by) (filter (λ n. p n.along) (map first_entry (steps f))) (filter (λ n. p n.along) (map later (entries fs)))
    ∙ ap₂ (λ k l. k ++ l)
    (ap (λ l. map (λ n. n.by) l) (filter_map (λ n. p n.along) first_entry (steps f)) ∙ map-map (λ n. n.by) first_entry (filter p (steps f)))
    (ap (λ l. map (λ n. n.by) l) (filter_map (λ n. p n.along) later (entries fs))
    ∙ map-map (λ n. n.by) later (filter (λ n. p n.along) (entries fs))
    ∙ sym (map-map suc (λ n. n.by) (filter (λ n. p n.along) (entries fs))))
  where
    first_entry : Step → Entry
    first_entry s = record { by = 0; along = s }

-- how many takers pass a test on their number, face by face
unfoldable pub tally : (ℕ → Bool) → (Face → ℕ) → List Face → ℕ
tally q c [] = 0
tally q c (f ∷ fs) = cond (q 0) (c f) 0 + tally (λ i. q (suc i)) c fs

-- a tally of the faces' steps counts the takers that pass
pub count_takers : (q : ℕ → Bool) (p : Step → Bool) (fs : List Face) → count q (takers p fs) ≡ tally q (λ f. count p (steps f)) fs
unfolding tally
count_takers q p [] = unfold entries each filter count below in refl
count_takers q p (f ∷ fs) =
    ap (count q) (takers_cons p f fs)
    ∙ count_append q (map (λ s. 0) (filter p (steps f))) (map suc (takers p fs))
    ∙ ap₂ (λ m n. m + n)
    (count_map q (λ s. 0) (filter p (steps f)) ∙ count_all (q 0) (filter p (steps f)) ∙ (unfold count in refl))
    (count_map q suc (takers p fs) ∙ count_takers (λ i. q (suc i)) p fs)

-- when marked faces have left, those that are unmarked are left
pub tally_leave : (m : ℕ → Bool) (c : Face → ℕ) (fs : List Face) → tally (λ i. true) c (leave m fs) ≡ tally (λ i. not (m i)) c fs
unfolding tally leave
tally_leave m c [] = refl
tally_leave m c (f ∷ fs) = go (m 0) (tally_leave (λ i. m (suc i)) c fs)
  where
    go : (b : Bool) → tally (λ i. true) c (leave (λ i. m (suc i)) fs) ≡ tally (λ i. not (m (suc i))) c fs
        → tally (λ i. true) c (cond b (leave (λ i. m (suc i)) fs) (f ∷ leave (λ i. m (suc i)) fs))
        ≡ cond (not b) (c f) 0 + tally (λ i. not (m (suc i))) c fs
    go true e = e ∙ sym (zero-add _)
    go false e = ap (λ n. c f + n) e

-- the takers in what is left are as many as the unmarked takers before
pub takers_leave : (m : ℕ → Bool) (p : Step → Bool) (fs : List Face) → length (takers p (leave m fs)) ≡ count (λ i. not (m i)) (takers p fs)
takers_leave m p fs =
    sym (count_all true (takers p (leave m fs)))
    ∙ count_takers (λ i. true) p (leave m fs)
    ∙ tally_leave m (λ f. count p (steps f)) fs
    ∙ sym (count_takers (λ i. not (m i)) p fs)
