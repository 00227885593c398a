-- The present contents have at each address its current record, and what a scan logs is the index addresses of its
-- range, each with its current record.
use Rattle.std.specs.Prelude.{ℕ, ◌≡◌, refl, List, [], ◌∷◌, map}
use Rattle.std.proofs.Math.Path.{sym}
use Rattle.std.proofs.Common.{ap, ◌∙◌, ⊎_elim}
use Rattle.std.proofs.Math.Option
use Rattle.std.proofs.Math.Option.{Option, none, some, get_or}
use Rattle.lists.specs.Tests.{pick, both, maybe, present, same, within}
use Rattle.lists.specs.TestLaws.{cases, clash, same_true, same_false}
use Rattle.lists.specs.Rows.{Row, row, look, between, keys, Rising, Different}
use Rattle.lists.specs.RowLaws.{has_keys, look_here, look_there, look_nil, look_lay, look_between, rising_lay}
use Rattle.spec.specs.Records.{Record}
use Rattle.spec.specs.Slots.{Pending, Content, idle, entries, content_of}
use Rattle.spec.specs.Maps.{MapState, outcome_of, current, pending_rows, contents, indexed_between}
use Rattle.laws.specs.SlotCounts.{Good}
use Rattle.laws.specs.SlotLaws.{keys_differ}

-- what a pending write leaves, if one is there
abbrev pub leaving : Option Content → Option (Option Record)
leaving o = maybe o none (λ (c : Content). Option.map outcome_of c.pending)

look_pending_none : (e : Row Content) (es : List (Row Content)) → e.item.pending ≡ none → pending_rows (e ∷ es) ≡ pending_rows es
unfolding pending_rows
look_pending_none e es q = ap (λ (o : Option Pending). maybe o (pending_rows es) (λ (p : Pending). row e.key (outcome_of p) ∷ pending_rows es)) q

look_pending_some : (e : Row Content) (es : List (Row Content)) (p : Pending) → e.item.pending ≡ some p → pending_rows (e ∷ es) ≡ row e.key (outcome_of p) ∷ pending_rows es
unfolding pending_rows
look_pending_some e es p q = ap (λ (o : Option Pending). maybe o (pending_rows es) (λ (x : Pending). row e.key (outcome_of x) ∷ pending_rows es)) q

pub look_pending_rows : (es : List (Row Content)) → Different (keys es) → (k : ℕ) → look (pending_rows es) k ≡ leaving (look es k)
unfolding keys Different
look_pending_rows [] d k = unfold pending_rows in look_nil k ∙ sym (ap leaving (look_nil k))
look_pending_rows (e ∷ es) d k = go e.item.pending refl (look_pending_rows es d.1 k)
  where
    absent : e.key ≡ k → look es k ≡ none
    absent q = none_of (look es k) refl
      where
        none_of : (o : Option Content) → look es k ≡ o → look es k ≡ none
        none_of none e' = e'
        none_of (some c) e' = clash (has_keys es e.key ∙ ap (λ (x : ℕ). present (look es x)) q ∙ ap present e') d.0

    go : (o : Option Pending) → e.item.pending ≡ o → look (pending_rows es) k ≡ leaving (look es k) → look (pending_rows (e ∷ es)) k ≡ leaving (look (e ∷ es) k)
    go none q ih =
        ap (λ (rs : List (Row (Option Record))). look rs k) (look_pending_none e es q)
        ∙ ih
        ∙ ⊎_elim
        (λ t. ap leaving (absent (same_true e.key k t)) ∙ sym (ap leaving (look_here e es k (same_true e.key k t)) ∙ ap (Option.map outcome_of) q))
        (λ t. sym (ap leaving (look_there e es k (same_false e.key k t))))
        (cases (same e.key k))
    go (some p) q ih =
        ap (λ (rs : List (Row (Option Record))). look rs k) (look_pending_some e es p q)
        ∙ ⊎_elim
        (λ t.
        look_here (row e.key (outcome_of p)) (pending_rows es) k (same_true e.key k t)
        ∙ sym (ap leaving (look_here e es k (same_true e.key k t)) ∙ ap (Option.map outcome_of) q))
        (λ t.
        look_there (row e.key (outcome_of p)) (pending_rows es) k (same_false e.key k t)
        ∙ ih
        ∙ sym (ap leaving (look_there e es k (same_false e.key k t))))
        (cases (same e.key k))

current_by : (o : Option Content) (r : Option Record) → get_or (leaving o) r ≡ maybe (get_or o idle).pending r outcome_of
current_by none r = refl
current_by (some c) r = go c.pending
  where
    go : (p : Option Pending) → get_or (Option.map outcome_of p) r ≡ maybe p r outcome_of
    go none = refl
    go (some p) = refl

pub look_contents : {bytes : ℕ} (m : MapState) → Good bytes m.slots → (k : ℕ) → look (contents m) k ≡ current m k
unfolding contents current content_of
look_contents m g k =
    look_lay (pending_rows (entries m.slots)) m.records k
    ∙ ap (λ (o : Option (Option Record)). get_or o (look m.records k)) (look_pending_rows (entries m.slots) (keys_differ g) k)
    ∙ current_by (look (entries m.slots) k) (look m.records k)

pub rising_contents : (m : MapState) → Rising m.records → Rising (contents m)
unfolding contents
rising_contents m f = rising_lay (pending_rows (entries m.slots)) m.records f

-- ---- what a scan logs

looked : (m : MapState) (rs : List (Row Record)) (k : ℕ)
    → look (map (λ (r : Row Record). row r.key (current m r.key)) rs) k ≡ pick (present (look rs k)) (some (current m k)) none
looked m [] k = look_nil k ∙ sym (ap (λ (o : Option Record). pick (present o) (some (current m k)) none) (look_nil k))
looked m (r ∷ rs) k =
    ⊎_elim
    (λ t.
    look_here (row r.key (current m r.key)) (map (λ (x : Row Record). row x.key (current m x.key)) rs) k (same_true r.key k t)
    ∙ ap (λ (x : ℕ). some (current m x)) (same_true r.key k t)
    ∙ sym (ap (λ (o : Option Record). pick (present o) (some (current m k)) none) (look_here r rs k (same_true r.key k t))))
    (λ t.
    look_there (row r.key (current m r.key)) (map (λ (x : Row Record). row x.key (current m x.key)) rs) k (same_false r.key k t)
    ∙ looked m rs k
    ∙ sym (ap (λ (o : Option Record). pick (present o) (some (current m k)) none) (look_there r rs k (same_false r.key k t))))
    (cases (same r.key k))

pub look_indexed_between : (m : MapState) (lo hi k : ℕ)
    → look (indexed_between m lo hi) k ≡ pick (both (within lo hi k) (present (look m.records k))) (some (current m k)) none
unfolding indexed_between
look_indexed_between m lo hi k =
    looked m (between lo hi m.records) k
    ∙ ap (λ (o : Option Record). pick (present o) (some (current m k)) none) (look_between lo hi m.records k)
    ∙ ⊎_elim (λ t. rw t) (λ t. rw t) (cases (within lo hi k))
