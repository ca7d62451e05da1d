-- A vector of NIST's validation program (CAVP) for AES-256 with no derivation function, computed by the definitions: a seeding without
-- personalization string and two requests of 64 bytes without additional input. What is published is the second request's bytes.
-- Assumes nothing.
use Rattle.std.specs.Prelude.{◌≡◌, List, [], ◌++◌, ℕ}
use Rattle.ctr_drbg.specs.Counter.{integer_to_octets}
use Rattle.ctr_drbg.specs.Algorithms.{instantiate, generate}

abbrev pub entropy_input : List ℕ
entropy_input = integer_to_octets 48 0xdf5d73faa468649edda33b5cca79b0b05600419ccb7a879ddfec9db32ee494e5531b51de16a30f769262474c73bec010

abbrev pub returned_bits : List ℕ
returned_bits =
    integer_to_octets 32 0xd1c07cd95af8a7f11012c84ce48bb8cb87189e99d40fccb1771c619bdf82ab22
    ++ integer_to_octets 32 0x80b1dc2f2581f39164f7ac0c510494b3a43c41b7db17514c87b107ae793e01c5

abbrev pub PublishedVector : Type 0
PublishedVector = (generate (generate (instantiate entropy_input []) 64 []).next 64 []).bytes ≡ returned_bits
