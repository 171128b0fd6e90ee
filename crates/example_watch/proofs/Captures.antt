-- The files of the examples are files with these packets: the first as it is spelled, the other unit by unit.
use Rattle.std.proofs.Common.{ℕ, zero, suc, ◌<◌, List, [], ◌∷◌, refl, arith}
use Rattle.std.specs.Prelude.{slice_index_or}
use Rattle.capture_files.specs.declared.captured.Interface.{Interface}
use Rattle.capture_files.specs.declared.numbers.Order.TheVariants.{Big}
use Rattle.capture_files.specs.declared.place.Place.TheVariants.{Block}
use Rattle.capture_files.specs.Blocks.{block_step}
use Rattle.capture_files.specs.Interfaces.{interface_step}
use Rattle.capture_files.specs.Numbers.{half_at, word_at}
use Rattle.capture_files.specs.Packets.{time_at, packet_on, packet_step}
use Rattle.capture_files.specs.Passing.{end_step, passing_step}
use Rattle.capture_files.specs.Runs.{PacketView, IsCapture}
use Rattle.capture_files.specs.Sections.{section_in, section_step}
use Rattle.capture_files.specs.Spelled.{RecordView, IsRecord, SpelledFilesAreRead}
use Rattle.capture_files.specs.Steps.{start_step, step_of}
use Rattle.example_watch.specs.Files.{classic_file, classic_packet, classic_view, record_view, section_head}
use Rattle.example_watch.specs.Files.{section_end, interface_head, interface_end, packet_head, packet_padding}
use Rattle.example_watch.specs.Files.{packet_end, block_file, block_packet}

fits : (k : ℕ) (d : RecordView) → k < 1 → IsRecord (slice_index_or (record_view ∷ []) k d)
fits zero d less = record {
  seconds_fit = omega arith;
  fraction_fits = omega arith;
  original_fits = omega arith;
  captured = omega arith;
  taken = omega arith;
}
fits (suc k) d less = absurd (omega (arith, less))

-- the file of the classic format is spelled from its packet
pub classic_capture : SpelledFilesAreRead → IsCapture classic_file (classic_packet ∷ [])
classic_capture law =
    law classic_view (record_view ∷ []) (record { link_fits = omega arith; above_fits = omega arith }) fits

pub block_capture : IsCapture block_file (block_packet ∷ [])
unfolding half_at word_at start_step section_in section_step end_step passing_step block_step interface_step time_at
    packet_on packet_step step_of
block_capture =
    let packets : List PacketView = block_packet ∷ [] in
    let interfaces : List Interface = record { link = 101; snapshot = 64; resolution = 6 } ∷ [] in
    record {
      state = record { place = Block Big; interfaces = interfaces };
      front = record {
        units = section_head ∷ section_end ∷ interface_head ∷ interface_end ∷ packet_head ∷ packet_padding ∷ packet_end
            ∷ [];
        joined = refl;
        leads = (
          record { asked = 24 ∷ []; asks = (omega arith, (refl, refl)); whole = tt },
          (
            packets,
            (
              (
                record { asked = []; asks = refl; whole = tt },
                (
                  packets,
                  (
                    (
                      record {
                        asked = 8 ∷ 16 ∷ [];
                        asks = (omega arith, (refl, (omega arith, (refl, refl))));
                        whole = tt;
                      },
                      (
                        packets,
                        (
                          (
                            record { asked = []; asks = refl; whole = tt },
                            (
                              packets,
                              (
                                (
                                  record {
                                    asked = 8 ∷ 28 ∷ 31 ∷ [];
                                    asks = (omega arith, (refl, (omega arith, (refl, (omega arith, (refl, refl))))));
                                    whole = tt;
                                  },
                                  (
                                    [],
                                    (
                                      (
                                        (tt, omega arith),
                                        (
                                          [],
                                          (
                                            (
                                              record { asked = []; asks = refl; whole = tt },
                                              ([], ((refl, refl), refl)),
                                            ),
                                            refl,
                                          ),
                                        ),
                                      ),
                                      refl,
                                    ),
                                  ),
                                ),
                                refl,
                              ),
                            ),
                          ),
                          refl,
                        ),
                      ),
                    ),
                    refl,
                  ),
                ),
              ),
              refl,
            ),
          ),
        );
      };
      ends = tt;
    }
