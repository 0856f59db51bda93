pub mod EdgePass
