-- What MARK, SAVE and RESOLVE write into the image's buffer.
use Rattle.std.specs.Prelude.{ℕ, ◌+◌, ◌-◌, ◌*◌, ◌/◌, ◌%◌, Bool, cond, ◌&&◌, ◌||◌, ◌==◌, nat_le, nat_lt}
use Rattle.layouts.specs.declared.values.Value.{Value}
use Rattle.model.specs.Images.{kind_number, payload as payload_of}
use Rattle.theory.specs.Machine.{Shape, half, Machine}

-- a register's two words
abbrev pub closed_kind_word : Value → ℕ
closed_kind_word v = kind_number v

abbrev pub payload : Value → ℕ
payload v = payload_of v

-- words 1 to 69 as MARK sets them; 0 elsewhere
abbrev pub closed_head_word : Shape → Machine → ℕ → ℕ
closed_head_word H m j =
    cond (j == 1) H.pages (cond (j == 2) H.lay.number (cond (j == 3) m.side (cond (j == 4) (m.st.top - m.side * half H) (cond (j == 5) (m.side * half H + half H - m.st.low)
    (cond (nat_le 6 j && nat_lt j 70) (cond ((j - 6) % 2 == 0) (closed_kind_word (m.reg ((j - 6) / 2))) (payload (m.reg ((j - 6) / 2)))) 0)))))

-- MARK: the first 70 + S words zeroed, words 1 to 69 set
abbrev pub closed_mark_words : Shape → Machine → ℕ → ℕ
closed_mark_words H m j = cond (nat_lt j (70 + half H)) (closed_head_word H m j) (m.buf j)

-- the address of the word that buffer word j is for
abbrev pub word_for : Shape → ℕ → ℕ → ℕ
word_for H side j = side * half H + (j - 70)

-- the word at x was used at MARK
abbrev pub used_then : Machine → ℕ → Bool
used_then m x = nat_lt x m.st.top || nat_le m.mark x

-- page n saved: its words used at MARK copied
abbrev pub closed_page_words : Shape → Machine → ℕ → ℕ → ℕ
closed_page_words H m n j = cond (nat_le 70 j && (word_for H m.side j / H.page == n && used_then m (word_for H m.side j))) (m.st.mem (word_for H m.side j)) (m.buf j)
