use Rattle.theory.proofs.SpoiltImages.{one_page_sealed_late, unsealed, other_page_size, other_half_pages, other_layout, half_2, too_many_words, kind_3, nil_with_payload, unused_word}
use Rattle.theory.proofs.spoilt_images_computed.Goals as goal

pub returns : goal.returns
returns c = record {
  one_page = one_page_sealed_late;
  unsealed = unsealed;
  page_size = other_page_size;
  half_pages = other_half_pages;
  layout = other_layout;
  half = half_2;
  words = too_many_words;
  kind = kind_3;
  nil = nil_with_payload;
  unused = unused_word;
}
