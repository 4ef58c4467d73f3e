-- Where runs begin, by the rows: in a sorted table a run begins, by its keys, exactly where the rules' edges say. Assumes nothing.
use mathlib.Core.Path.{◌≡◌, refl, sym, ap, ap₂, ◌∙◌}
use mathlib.Core.Bool.{Bool, true, false, cond}
use mathlib.Core.List.{List, [], ◌∷◌, ◌++◌, map, append-nil, map-append}
use Prim.Native.Nat.{ℕ, zero, suc, ◌+◌, ◌*◌, ◌≤◌, ◌<◌}
use native.Mathlib.Omega.{arith}
use native.Mathlib.Decide.{le_ind}
use lib.ListN.{length, get_or, length-append, length-map}
use Rattle.rows.specs.Region.{Apart.before, Apart.after, Only2}
use Rattle.rows.proofs.Regions.{kept2_at}
use Rattle.rules.specs.Lists.{below, filter, count}
use Rattle.rules.specs.Mesh.{faces_of}
use Rattle.rules.specs.Steps.{Step, step}
use Rattle.rule_laws.proofs.Lists.{filter_append, length_below}
use Rattle.table.specs.Entries.{keys_of, start_of}
use Rattle.table.specs.Runs.{entry, key_at, begins, RunsAsks}
use Rattle.table.specs.Table.{TableAsks, Sorted, run_of}
use Rattle.table.proofs.Rows.{same_self, less_same, keys_rise, rise_at}
use Rattle.table.proofs.Places.{none, id_in, key_at_is, run_in, run_number, last_start, start_zero, starts_rise, starts_mono}

-- ---- places that pass a test

module _ (b : ℕ → Bool) where
  -- one place more
  pub places_next : (i : ℕ) → filter b (below (suc i)) ≡ filter b (below i) ++ cond (b i) (i ∷ []) []
  unfolding below filter
  places_next i = filter_append b (below i) (i ∷ [])

  -- of the places from a on, up to e, only a passes
  pub places_run : (a e : ℕ) → a < e → b a ≡ true → ((j : ℕ) → a < j → j < e → b j ≡ false) → filter b (below e) ≡ filter b (below a) ++ (a ∷ [])
  places_run a e h t f = le_ind (λ (k : ℕ). k ≤ e → filter b (below k) ≡ filter b (below a) ++ (a ∷ [])) first later e h (omega arith)
    where
      first : suc a ≤ e → filter b (below (suc a)) ≡ filter b (below a) ++ (a ∷ [])
      first l = places_next a ∙ ap (λ c. filter b (below a) ++ cond c (a ∷ []) []) t

      later : (k : ℕ) → suc a ≤ k → (k ≤ e → filter b (below k) ≡ filter b (below a) ++ (a ∷ [])) → suc k ≤ e → filter b (below (suc k)) ≡ filter b (below a) ++ (a ∷ [])
      later k l r m = places_next k ∙ ap (λ c. filter b (below k) ++ cond c (k ∷ []) []) (f k l m) ∙ append-nil (filter b (below k)) ∙ r (omega arith)

-- ---- a step that leaves the keys and the order

module _ {w w' : List ℕ} {n at : ℕ} (p : RunsAsks w n at) (o : Only2 (at + 2 * n) n (at + 4 * n) (n + 1) w w') where
  -- the entries in order are as they were
  pub entry_kept : (i : ℕ) → i < n → entry w' n at i ≡ entry w n at i
  entry_kept i h = kept2_at o (after (omega arith)) (before (omega arith)) i h

  -- so are their keys
  key_kept : (i : ℕ) → i < n → key_at w' n at i ≡ key_at w n at i
  key_kept i h =
      rw (entry_kept i h)
      (ap₂ (λ x y. step x y)
      (kept2_at o {d = at} {l = n} (before (omega arith)) (before (omega arith)) (entry w n at i) (p.id i h))
      (kept2_at o {d = at + n} {l = n} (before (omega arith)) (before (omega arith)) (entry w n at i) (p.id i h)))

  -- and so is where runs begin
  pub begins_kept : (i : ℕ) → i < n → begins w' n at i ≡ begins w n at i
  begins_kept zero h = refl
  begins_kept (suc i) h = rw (key_kept (suc i) h, key_kept i (omega arith))

  -- and what is asked
  pub runs_asks_kept : RunsAsks w' n at
  runs_asks_kept = let l = o.long in record { few = p.few; fit = omega (arith, p.fit); id = λ i h. rw (entry_kept i h) (p.id i h) }

-- ---- a sorted table

module _ {w xs : List ℕ} {P : ℕ} {d : Bool} {at : ℕ} (p : TableAsks w xs P at) (s : Sorted w xs P d at) where
  -- the different edges
  abbrev es : List Step
  es = keys_of d P (faces_of xs)

  -- where run r begins
  abbrev from : ℕ → ℕ
  from r = start_of d P (faces_of xs) r

  -- whether a run begins at a place
  abbrev test : ℕ → Bool
  test i = begins w (length xs) at i

  -- what numbering the runs asks
  pub table_asks : RunsAsks w (length xs) at
  table_asks = record { few = p.few; fit = omega (arith, p.fit); id = id_in p s }

  -- the keys at a place of run r are edge r
  key_is : (r j : ℕ) → r < length es → from r ≤ j → j < from (suc r) → key_at w (length xs) at j ≡ get_or es r none
  key_is r j h l k =
      let q : j < length xs = omega (arith, starts_mono d P (faces_of xs) (suc r) (length es) h, last_start p s) in
      let i = id_in p s j q in
      ap₂ (λ x y. step x y) (s.firsts.each (entry w (length xs) at j) i) (s.seconds.each (entry w (length xs) at j) i) ∙ key_at_is p s r j h l k

  -- a run begins where it does
  begins_first : (j r : ℕ) → r < length es → j ≡ from r → test j ≡ true
  begins_first zero r h e = refl
  begins_first (suc j) zero h e = absurd (omega (arith, start_zero d P (faces_of xs)))
  begins_first (suc j) (suc r) h e =
      let a = starts_rise d P (faces_of xs) r (omega arith) in
      let b = starts_rise d P (faces_of xs) (suc r) h in
      rw (key_is (suc r) (suc j) h (omega arith) (omega arith), key_is r j (omega arith) (omega arith) (omega arith), less_same (rise_at none es (keys_rise d P (faces_of xs)) r (suc r) (omega arith) h))

  -- and at no later place of it
  begins_later : (r j : ℕ) → r < length es → from r < j → j < from (suc r) → test j ≡ false
  begins_later r zero h l k = absurd (omega arith)
  begins_later r (suc j) h l k = rw (key_is r (suc j) h (omega arith) k, key_is r j h (omega arith) (omega arith), same_self (get_or es r none))

  -- the places where the first r runs begin
  pub starts_are : (r : ℕ) → r ≤ length es → filter test (below (from r)) ≡ map from (below r)
  starts_are zero h = rw (start_zero d P (faces_of xs)) (unfold filter below in refl)
  starts_are (suc r) h =
      places_run test (from r) (from (suc r)) (starts_rise d P (faces_of xs) r h) (begins_first (from r) r h refl) (λ j l k. begins_later r j h l k)
      ∙ ap (λ l. l ++ (from r ∷ [])) (starts_are r (omega arith))
      ∙ unfold below in (sym (map-append from (below r) (r ∷ [])))

  -- of all runs
  pub starts_all : filter test (below (length xs)) ≡ map from (below (length es))
  starts_all = rw (← (last_start p s)) (starts_are (length es) (omega arith))

  -- how many runs begin up to a place: the number of its run, and one
  pub begun : (j : ℕ) → j < length xs → suc (run_of xs P d (entry w (length xs) at j)) ≡ count test (below (suc j))
  unfolding count
  begun j h =
      let t = run_in p s j h in
      let r = t.0 in
      let e = run_number p s r j t.1 t.2 t.3 in
      let f = ap length (places_run test (from r) (suc j) (omega (arith, t.2)) (begins_first (from r) r t.1 refl) (λ i l k. begins_later r i t.1 l (omega (arith, t.3)))) in
      let g = ap length (starts_are r (omega (arith, t.1))) in
      omega (arith, length-append (filter test (below (from r))) (from r ∷ []), length-map (below r) from, length_below r)
