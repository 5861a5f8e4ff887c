use Rattle.std.proofs.Common.{◌≡◌, ◌<◌, ℕ, true, [], Some, slice_get, get_or, length, Contains}
use Rattle.sat_base.specs.declared.literal.Var.{Var}
use Rattle.plain_tableau.specs.Internal.Due.{at_number, is_due_at, is_due_place, names_variable}
use Rattle.plain_tableau.proofs.path.note_all.Given as goal

abbrev pub invariant-loop-u : goal.invariant-loop-u
invariant-loop-u l = record {
  count : length l.noted.items ≡ length l.fn.noted.items;
  noted : (u k : ℕ) (v : Var) → u < l.u → slice_get l.used u ≡ Some k → names_variable (at_number l.steps k) v ≡ true → Contains (get_or l.noted.items v.0 []) u;
  places : (n u : ℕ) → Contains (get_or l.noted.items n []) u → u < l.u;
  due : (u k : ℕ) → u < l.u → slice_get l.used u ≡ Some k → is_due_place l.due u ≡ is_due_at l.steps l.branch.keys k;
  inside : (u : ℕ) → is_due_place l.due u ≡ true → u < l.u;
}
