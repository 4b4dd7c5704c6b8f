-- One outcome for each input, of every public function of the libraries: any two outcomes that its contract permits are
-- equal, in the result and in every byte of each buffer. Each theorem is on the function's own contract as the source states
-- it (`Reads.Post`), so that a loosened `ensures` breaks it; it stands in its crate's proofs/One and is only collected here.
-- Assumes nothing.
pub use Rattle.paper.proofs.One.{refusal_number_one as paper-refusal-number-one}
pub use Rattle.lists.proofs.One.{copy_one as lists-copy-one, copy_at_one as lists-copy-at-one, to_front_one as lists-to-front-one, clear_one as lists-clear-one, first_of_one as lists-first-of-one, first_zero_one as lists-first-zero-one, first_line_one as lists-first-line-one}
pub use Rattle.numbers.proofs.One.{width_one as numbers-width-one, code_one as numbers-code-one, narrow_one as numbers-narrow-one, four_one as numbers-four-one, joined_one as numbers-joined-one, split_one as numbers-split-one, number_one as numbers-number-one, short_at_one as numbers-short-at-one, measure_one as numbers-measure-one, put_one as numbers-put-one, signed_one as numbers-signed-one, unsigned_one as numbers-unsigned-one, status_one as numbers-status-one, status_bytes_one as numbers-status-bytes-one}
pub use Rattle.reading.proofs.One.{read_one as reading-read-one, read_strict_one as reading-read-strict-one, carries_one as reading-carries-one, charges_at_one as reading-charges-at-one, of_one as reading-of-one, verdict_one as reading-verdict-one, dvc_strict_one as reading-dvc-strict-one}
pub use Rattle.laying.proofs.One.{create_request_one as laying-create-request-one, create_response_one as laying-create-response-one, data_first_one as laying-data-first-one, data_one as laying-data-one, close_one as laying-close-one, capabilities_request_one as laying-capabilities-request-one, capabilities_response_one as laying-capabilities-response-one}
pub use Rattle.writing.proofs.One.{write_create_request_one as writing-write-create-request-one, write_create_response_one as writing-write-create-response-one, write_data_first_one as writing-write-data-first-one, write_data_one as writing-write-data-one, write_close_one as writing-write-close-one, write_capabilities_request_one as writing-write-capabilities-request-one, write_capabilities_response_one as writing-write-capabilities-response-one}
pub use Rattle.cutting.proofs.One.{cut_one as cutting-cut-one, dvc_cut_one as cutting-dvc-cut-one}
pub use Rattle.listeners.proofs.One.{good_one as listeners-good-one, listed_one as listeners-listed-one}
pub use Rattle.channel.proofs.One.{take_one as channel-take-one, answers_one as channel-answers-one, garbles_one as channel-garbles-one, act_one as channel-act-one, concerns_one as channel-concerns-one, value_one as channel-value-one, class_at_one as channel-class-at-one, opened_one as channel-opened-one}
pub use Rattle.table.proofs.One.{blank_one as table-blank-one, empty_one as table-empty-one, find_number_one as table-find-number-one, find_free_one as table-find-free-one, find_open_one as table-find-open-one, find_one as table-find-one, totals_after_one as table-totals-after-one, put_one as table-put-one, sound_one as table-sound-one}
pub use Rattle.store.proofs.One.{put_block_one as store-put-block-one, clear_part_one as store-clear-part-one}
pub use Rattle.deciding.proofs.One.{decide_one as deciding-decide-one}
pub use Rattle.connection.proofs.One.{keep_one as connection-keep-one, place_after_one as connection-place-after-one}
pub use Rattle.client.proofs.One.{start_one as client-start-one, heard_one as client-heard-one, closing_one as client-closing-one, step_one as client-step-one, receive_one as client-receive-one, local_close_one as client-local-close-one, totals_one as client-totals-one, bad_call_one as client-bad-call-one, lay_one as client-lay-one, bare_one as client-bare-one, place_if_one as client-place-if-one}
pub use Rattle.lines.proofs.One.{field_one as lines-field-one, text_one as lines-text-one, channel_one as lines-channel-one, header_one as lines-header-one, answer_one as lines-answer-one, line_one as lines-line-one, cut_line_one as lines-cut-line-one, message_line_one as lines-message-line-one, hex_byte_one as lines-hex-byte-one, bytes_field_one as lines-bytes-field-one, reading_header_one as lines-reading-header-one, refused_one as lines-refused-one, reading_line_one as lines-reading-line-one, totals_header_one as lines-totals-header-one, totals_line_one as lines-totals-line-one, answer_line_one as lines-answer-line-one, placed_one as lines-placed-one, pen_text_one as lines-pen-text-one, pen_field_one as lines-pen-field-one, pen_channel_one as lines-pen-channel-one, pen_answer_one as lines-pen-answer-one, pen_bytes_one as lines-pen-bytes-one, pen_refused_one as lines-pen-refused-one}
pub use Rattle.records.proofs.One.{whole_one as records-whole-one, due_for_one as records-due-for-one, desk_whole_one as records-desk-whole-one, link_whole_one as records-link-whole-one, turn_one as records-turn-one}
pub use Rattle.saying.proofs.One.{desk_header_one as saying-desk-header-one, desk_line_one as saying-desk-line-one, link_header_one as saying-link-header-one, end_word_one as saying-end-word-one, dropped_line_one as saying-dropped-line-one, bad_line_one as saying-bad-line-one}
pub use Rattle.handing.proofs.One.{message_one as handing-message-one, of_answer_one as handing-of-answer-one, of_said_one as handing-of-said-one, handed_one as handing-handed-one}
pub use Rattle.hosting.proofs.One.{announces_one as hosting-announces-one, hosted_one as hosting-hosted-one}
pub use Rattle.linking.proofs.One.{start_one as linking-start-one, step_one as linking-step-one}
pub use Rattle.walking.proofs.One.{store_for_one as walking-store-for-one, begin_one as walking-begin-one, turn_one as walking-turn-one}
