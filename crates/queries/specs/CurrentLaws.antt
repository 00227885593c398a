-- The current record of an address, by what the indexlet says of it.
use Rattle.std.specs.Prelude.{ℕ, zero, suc, ◌≡◌, refl, Option as Optional, Some, None}
use Rattle.std.proofs.Common.{◌∙◌}
use Rattle.std.proofs.Math.Path.{sym, ap}
use Rattle.std.proofs.Math.Option.{Option, none}
use Rattle.lists.specs.Tests.{maybe}
use Rattle.lists.specs.Rows.{look}
use Rattle.spec.specs.Payloads.{record_in}
use Rattle.spec.specs.Records.{limits, outcome}
use Rattle.spec.specs.Slots.{Pending, Content, content_of, Searched, search}
use Rattle.spec.specs.Maps.{outcome_of, current}
use Rattle.indexlet.specs.declared.Content.{Content as ContentWords}
use Rattle.indexlet.specs.declared.Looked.{Looked}
use Rattle.indexlet.specs.Words.{pending_in, content_in, slots_of}
use Rattle.indexlet.specs.Promises.{looked_in, Looks}
use Rattle.index.specs.Views.{records_of}
use Rattle.spec.specs.declared.RecordWords.{RecordWords}
use Rattle.queries.specs.QueryViews.{Sees}
use Rattle.map.specs.Views.{SlotRows, RecordRows, slots_in}

-- a pending write, if there is one, in the words of the indexlet
pending_of_lem : (c : ContentWords) → (content_in c).pending ≡ pending_in c.kind c.payload c.commit c.since
unfolding content_in
pending_of_lem c = refl

module _ (rows : RecordRows) (n : ℕ) (slots : SlotRows) (a : ℕ) (c : ContentWords) (said : content_of (slots_of slots) a ≡ content_in c) where
  pending_here_lem : (content_of (slots_of slots) a).pending ≡ pending_in c.kind c.payload c.commit c.since
  pending_here_lem = ap (λ (x : Content). x.pending) said ∙ pending_of_lem c

  -- nothing is pending: the record of the index
  pub sees_indexed : (r : Optional RecordWords) → c.kind ≡ 0 → record_in r ≡ look (records_of rows n) a → Sees rows n slots a r
  unfolding current pending_in
  sees_indexed r k e =
      record {
        record_is = λ ls.
            e ∙ sym
            (ap (λ (p : Option Pending). maybe p (look (records_of rows n) a) outcome_of)
            (pending_here_lem ∙ ap (λ (x : ℕ). pending_in x c.payload c.commit c.since) k));
      }

  -- a put is pending: the record that it leaves
  pub sees_put : c.kind ≡ 1 → Sees rows n slots a (Some (record { payload = c.payload; commit = c.commit }))
  unfolding current pending_in outcome_of outcome
  sees_put k =
      record {
        record_is = λ ls.
            sym
            (ap (λ (p : Option Pending). maybe p (look (records_of rows n) a) outcome_of)
            (pending_here_lem ∙ ap (λ (x : ℕ). pending_in x c.payload c.commit c.since) k));
      }

  -- a deletion is pending
  pub sees_deletion : (c.kind ≡ 0 → ⊥) → (c.kind ≡ 1 → ⊥) → Sees rows n slots a None
  unfolding current pending_in outcome_of outcome
  sees_deletion k l =
      record { record_is = λ ls. go c.kind k l ∙ sym (ap (λ (p : Option Pending). maybe p (look (records_of rows n) a) outcome_of) pending_here_lem) }
    where
      go : (x : ℕ) → (x ≡ 0 → ⊥) → (x ≡ 1 → ⊥) → none ≡ maybe (pending_in x c.payload c.commit c.since) (look (records_of rows n) a) outcome_of
      go zero k l = absurd (k refl)
      go (suc zero) k l = absurd (l refl)
      go (suc (suc x)) k l = refl

-- how many slots were examined
pub examined_is : {slots : SlotRows} {a : ℕ} {r : Looked} → Looks slots a r → r.examined ≡ (search limits.bytes (slots_in slots) a).examined
unfolding looked_in
examined_is l = sym (ap (λ (q : Searched). q.examined) l.searched)
