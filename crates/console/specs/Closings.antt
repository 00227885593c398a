-- The end of the input: the triples of copied records one after the other, and the last line.
use Rattle.std.specs.Prelude.{ℕ, suc, ◌+◌, ◌*◌, ◌^◌, ◌<◌, ◌≤◌, ◌≡◌, refl, List, [], ◌∷◌, ◌++◌, length, get_or}
use Rattle.std.proofs.Common.{arith, sym, ap, ◌∙◌, subst, append_assoc, append-nil}
use Rattle.lists.specs.Rows.{Row, map_items}
use Rattle.lists.specs.Texts.{Wrote}
use Rattle.lists.specs.TextLaws.{wrote_join}
use Rattle.spec.specs.Records.{Payload, Record}
use Rattle.spec.specs.Exports.{unstamped}
use Rattle.sets.specs.SetLaws.{rows_none, rows_snoc}
use Rattle.contents.specs.declared.rows.CopiedRecord.{CopiedRecord}
use Rattle.contents.specs.Copies.{CopyRows, copy_row, copied_in}
use Rattle.contents.specs.RowLaws.{row_of}
use Rattle.answers.specs.Output.{triple, triples}
use Rattle.answers.specs.OutputLaws.{triple_most}

abbrev pub triples_for : List (Row Payload) → List ℕ
triples_for rs = triples (λ (p : Payload). p) rs

-- the triples of the first n rows are written
pub record TriplesPut (rows : CopyRows) (n : ℕ) (old : List ℕ) (at : ℕ) (new : List ℕ) (next : ℕ) : Type 0 where
  pub wrote : Wrote old at (triples_for (copied_in rows n)) new next
  pub most : next ≤ at + 63 * n

pub triples_none : (rows : CopyRows) (old : List ℕ) (at : ℕ) → at ≤ length old → TriplesPut rows 0 old at old at
unfolding triples
triples_none rows old at h =
    record {
      wrote = subst (λ (rs : List (Row Payload)). Wrote old at (triples_for rs) old at) (sym (rows_none copy_row rows)) (record { written = refl; within = omega arith; place = omega arith });
      most = omega arith;
    }

-- one row more
triples_snoc : (rs : List (Row Payload)) (r : Row Payload) → triples_for (rs ++ (r ∷ [])) ≡ triples_for rs ++ triple r.key r.item.value r.item.owner
unfolding triples
triples_snoc [] r = append-nil (triple r.key r.item.value r.item.owner)
triples_snoc (x ∷ rs) r =
    let t = triple x.key x.item.value x.item.owner in
    ap (λ (l : List ℕ). t ++ l) (triples_snoc rs r) ∙ sym (append_assoc t (triples_for rs) (triple r.key r.item.value r.item.owner))

pub triples_on : {rows : CopyRows} {i : ℕ} {old : List ℕ} {at : ℕ} {mid new : List ℕ} {place next : ℕ} (r : CopiedRecord) → TriplesPut rows i old at mid place
    → row_of r ≡ copy_row (get_or rows i []) → r.address < 2 ^ 64 → r.value < 2 ^ 64 → r.owner < 2 ^ 64
    → Wrote mid place (triple r.address r.value r.owner) new next → TriplesPut rows (i + 1) old at new next
triples_on {rows} {i} {old} {at} {mid} {new} {place} {next} r p e x y o w =
    let s : i + 1 ≡ suc i = omega arith in
    let m : length (triple r.address r.value r.owner) ≤ 63 = triple_most r.address r.value r.owner x y o in
    let q = p.most in
    let z = w.place in
    record {
      wrote =
          subst (λ (t : List ℕ). Wrote old at t new next)
          (sym
          (ap (λ (k : ℕ). triples_for (copied_in rows k)) s
          ∙ ap triples_for (rows_snoc copy_row rows i ∙ ap (λ (x : Row Payload). copied_in rows i ++ (x ∷ [])) (sym e))
          ∙ triples_snoc (copied_in rows i) (row_of r)))
          (wrote_join p.wrote w);
      most = omega arith;
    }

pub triples_end : {rows : CopyRows} {i n : ℕ} {old : List ℕ} {at : ℕ} {new : List ℕ} {next : ℕ} → TriplesPut rows i old at new next → i ≤ n → n ≤ i → TriplesPut rows n old at new next
triples_end {rows} {i} {n} {old} {at} {new} {next} p l h = subst (λ (k : ℕ). TriplesPut rows k old at new next) (let e : i ≡ n = omega arith in e) p

-- commit numbers are not written
pub triples_unstamped : (rs : List (Row Record)) → triples_for (unstamped rs) ≡ triples (λ (r : Record). r.payload) rs
unfolding triples map_items
triples_unstamped [] = refl
triples_unstamped (r ∷ rs) = ap (λ (l : List ℕ). triple r.key r.item.payload.value r.item.payload.owner ++ l) (triples_unstamped rs)
