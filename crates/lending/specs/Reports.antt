-- The report as a list of its counts, and back. Definitions only.
use Rattle.std.specs.Prelude.{List, [], ◌∷◌, ℕ, ◌<◌, get_or, replicate}
use Rattle.rules.specs.State.{Count, report_counts, more}
use Rattle.lending.specs.declared.Report.{Report}

-- the counts, in report order
abbrev pub counts_of : Report → List ℕ
counts_of r =
    r.repeated_removed ∷ r.thin_removed ∷ r.duplicate_faces_removed ∷ r.nonmanifold_edges ∷ r.faces_dropped_at_nonmanifold
    ∷ r.faces_dropped_for_orientation ∷ r.bowtie_vertices_split ∷ r.points_added_by_splitting ∷ r.faces_reoriented
    ∷ r.nonorientable_components ∷ r.isolated_vertices_removed ∷ []

-- the report that has these counts
abbrev pub report_of : List ℕ → Report
report_of counts =
    record {
      repeated_removed = get_or counts 0 0;
      thin_removed = get_or counts 1 0;
      duplicate_faces_removed = get_or counts 2 0;
      nonmanifold_edges = get_or counts 3 0;
      faces_dropped_at_nonmanifold = get_or counts 4 0;
      faces_dropped_for_orientation = get_or counts 5 0;
      bowtie_vertices_split = get_or counts 6 0;
      points_added_by_splitting = get_or counts 7 0;
      faces_reoriented = get_or counts 8 0;
      nonorientable_components = get_or counts 9 0;
      isolated_vertices_removed = get_or counts 10 0;
    }

-- before the first pass
abbrev pub empty : Report
empty = report_of (replicate report_counts 0)

-- a report with k more at a count
abbrev pub added : Count → ℕ → Report → Report
added c k h = report_of (more c k (counts_of h))

-- each count is below N
pub record CountsBelow (N : ℕ) (r : Report) : Type 0 where
  pub each : (j : ℕ) → j < report_counts → get_or (counts_of r) j 0 < N
