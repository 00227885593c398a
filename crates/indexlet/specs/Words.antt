-- How the indexlet's slots stand in rows of words: its key, the overflow count, the kind of the pending write, the lock, whether
-- that is for a put, the write's value, its owner, its commit number, the install since which it waits.
use Rattle.std.specs.Prelude.{ℕ, zero, suc, List, [], ◌∷◌, eqb, get_or, set}
use Rattle.std.proofs.Math.Option.{Option, none, some}
use Rattle.lists.specs.Tabulation.{tab}
use Rattle.spec.specs.Records.{written, deleted}
use Rattle.spec.specs.Payloads.{payload_in}
use Rattle.spec.specs.declared.PayloadWords.{PayloadWords}
use Rattle.spec.specs.Slots.{slot_count, Pending, Content, Slot, kept}
use Rattle.indexlet.specs.declared.Content.{Content as ContentWords}
use Rattle.indexlet.specs.declared.Slot.{Slot as SlotWords}

-- the lent rows, as lists of words
abbrev pub SlotRows : Type 0
SlotRows = List (List ℕ)

-- how many words a row has
abbrev pub slot_words : ℕ
slot_words = 9

-- the pending write with this kind, payload and commit number, which waits since install t
unfoldable pub pending_in : ℕ → PayloadWords → ℕ → ℕ → Option Pending
pending_in zero v n t = none
pending_in (suc zero) v n t = some (record { write = written (payload_in v); commit = n; since = t })
pending_in (suc (suc k)) v n t = some (record { write = deleted; commit = n; since = t })

-- the holder of a lock
unfoldable pub holder_in : ℕ → Option ℕ
holder_in zero = none
holder_in (suc w) = some w

-- what is said
unfoldable pub content_in : ContentWords → Content
content_in c =
    record {
      pending = pending_in c.kind c.payload c.commit c.since;
      holder = holder_in c.lock;
      for_put = eqb c.forput 1;
    }

-- the slot that a row stands for
unfoldable pub slot_in : SlotWords → Slot
slot_in s = record { entry = kept s.key (content_in s.content); overflow = s.overflow }

-- the slot in words that a row says
abbrev pub row_in : List ℕ → SlotWords
row_in ws =
    record {
      key = get_or ws 0 0;
      content =
          record {
            kind = get_or ws 2 0;
            payload = record { value = get_or ws 5 0; owner = get_or ws 6 0 };
            commit = get_or ws 7 0;
            since = get_or ws 8 0;
            lock = get_or ws 3 0;
            forput = get_or ws 4 0;
          };
      overflow = get_or ws 1 0;
    }

-- the row of slot i
abbrev pub row_at : SlotRows → ℕ → SlotWords
row_at ts i = row_in (get_or ts i [])

-- the slot in words with c said of k in it, and the count that it had
abbrev pub saying : ℕ → ContentWords → SlotWords → SlotWords
saying k c s = record { key = k; content = c; overflow = s.overflow }

-- the words of a row
abbrev pub words_of : SlotWords → List ℕ
words_of s =
    s.key ∷ s.overflow ∷ s.content.kind ∷ s.content.lock ∷ s.content.forput ∷ s.content.payload.value ∷ s.content.payload.owner ∷ s.content.commit
    ∷ s.content.since ∷ []

-- the rows with another one at slot i
abbrev pub store : SlotRows → ℕ → SlotWords → SlotRows
store ts i s = set ts i (words_of s)

-- the rows with another word at place p of row r
abbrev pub word_put : SlotRows → ℕ → ℕ → ℕ → SlotRows
word_put ts r p w = set ts r (set (get_or ts r []) p w)

-- The model's slots in the rows: the view.
unfoldable pub slots_of : SlotRows → List Slot
slots_of ts = tab (λ (i : ℕ). slot_in (row_at ts i)) slot_count
